use Rattle.row_order.proofs.PlacedLemmas.{none_of}
use Rattle.row_order.proofs.PackLemmas.{gathering_skips, gathering_moves, gathering_counts}
use Rattle.row_order.proofs.compaction.gather.Goals as goal
use Rattle.row_order.proofs.compaction.gather.Goals.{in-Some, in_default}

pub loop-from-preserved : goal.loop-from-preserved
loop-from-preserved c = elim c.match-cells-from.branch [
  | in-Some w ↦ rw (w.cells-is, w.cell_of-is, w.to-is) (gathering_moves c.loop-from.invariant w.in-Some.id c.loop-from-test.true w.in-Some.is)
  | in_default w ↦ rw (w.cells-is, w.cell_of-is, w.to-is) (gathering_skips c.loop-from.invariant (none_of _ w.in_default.not-Some))
]

pub returns-clause-count : goal.returns-clause-count
returns-clause-count c = gathering_counts c.loop-from.invariant c.loop-from-test.false
