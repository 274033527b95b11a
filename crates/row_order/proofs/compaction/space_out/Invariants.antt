use Rattle.row_order.proofs.PackLemmas.{IsSpacing}
use Rattle.row_order.proofs.compaction.space_out.Given as goal

abbrev pub invariant-loop-at : goal.invariant-loop-at
invariant-loop-at l = IsSpacing l.fn.cells l.cells l.cell_of l.count l.at

abbrev pub decreases-loop-at : goal.decreases-loop-at
decreases-loop-at l = l.at
