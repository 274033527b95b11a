use Rattle.row_order.proofs.PackLemmas.{IsGathering}
use Rattle.row_order.proofs.compaction.gather.Given as goal

abbrev pub invariant-loop-from : goal.invariant-loop-from
invariant-loop-from l = IsGathering l.fn.cells l.cells l.cell_of l.tail l.to l.from
