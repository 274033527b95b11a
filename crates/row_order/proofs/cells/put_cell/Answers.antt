use Rattle.row_order.proofs.CountedLemmas.{opened_low, counted_put}
use Rattle.row_order.proofs.cells.put_cell.Goals as goal

pub open_cell-requires-clause-low : goal.open_cell-requires-clause-low
open_cell-requires-clause-low c = opened_low c.requires.counted c.args.count c.requires.count

pub returns-clause-counted : goal.returns-clause-counted
returns-clause-counted c = counted_put c.requires.counted c.args.id c.requires.room c.requires.count c.open_cell.ensures
