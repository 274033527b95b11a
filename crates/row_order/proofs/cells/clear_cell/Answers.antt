use Rattle.row_order.proofs.PlacedLemmas.{some_of}
use Rattle.row_order.proofs.CountedLemmas.{rank_positive, before_positive, cleared}
use Rattle.row_order.proofs.cells.clear_cell.Goals as goal

pub lower-requires-clause-positive : goal.lower-requires-clause-positive
lower-requires-clause-positive c = λ k a b.
    let s = some_of _ c.requires.stands in
    rank_positive c.requires.counted c.args.cell s.0 c.requires.within s.1 k a (rw c.min-block_end.ensures at b)

pub lower-requires-2-clause-positive : goal.lower-requires-2-clause-positive
lower-requires-2-clause-positive c = λ k a b.
    let s = some_of _ c.requires.stands in
    before_positive c.requires.counted c.args.cell s.0 c.requires.within s.1 k a b

pub returns-clause-counted : goal.returns-clause-counted
returns-clause-counted c =
    let s = some_of _ c.requires.stands in
    cleared c.requires.counted c.args.cell s.0 c.requires.within s.1 (rw c.min-block_end.ensures at c.lower.ensures) c.lower-2.ensures
