use Rattle.std.proofs.Common.{arith}
use Rattle.row_order.proofs.KeptLemmas.{place_within, at_answer}
use Rattle.row_order.proofs.order.RowOrder.at.Goals as goal

pub cell_at-cell-requires-clause-within : goal.cell_at-cell-requires-clause-within
cell_at-cell-requires-clause-within c = place_within c.self.invariant _ _ c.deref.ensures.value c.if-place-self.false

pub returns : goal.returns
returns c = rw (← c.self.view_is)
    (at_answer c.self.inside.cells.items _ _ _ _ c.deref.ensures.value
    (omega (arith, c.cell_at-cell.ensures.tail, c.self.invariant.counted.within)) c.index.ensures c.cell_at-cell.ensures.low c.cell_at-cell.ensures.high)
