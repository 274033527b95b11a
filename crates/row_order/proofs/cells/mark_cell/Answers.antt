use Rattle.std.proofs.Common.{arith}
use Rattle.row_order.proofs.CountedLemmas.{rank_small, before_small, marked}
use Rattle.row_order.proofs.cells.mark_cell.Goals as goal

pub raise-requires-clause-small : goal.raise-requires-clause-small
raise-requires-clause-small c = λ k a b. rank_small c.requires.counted k (omega (arith, c.min-block_end.ensures))

pub raise-requires-2-clause-small : goal.raise-requires-2-clause-small
raise-requires-2-clause-small c = λ k a b. before_small c.requires.counted k b

pub returns-clause-counted : goal.returns-clause-counted
returns-clause-counted c =
    marked c.requires.counted c.args.cell c.args.id c.requires.within c.requires.empty (rw c.min-block_end.ensures at c.raise.ensures) c.raise-2.ensures
