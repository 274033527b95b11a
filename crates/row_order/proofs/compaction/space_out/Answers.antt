use Rattle.std.proofs.Common.{arith}
use Rattle.row_order.proofs.PackLemmas.{spacing_moves}
use Rattle.row_order.proofs.compaction.space_out.Goals as goal

pub loop-at-preserved-in-Some : goal.loop-at-preserved-in-Some
loop-at-preserved-in-Some c = spacing_moves c.loop-at.invariant (omega (arith, c.loop-at-test.true)) c.in-Some.id c.in-Some.is
