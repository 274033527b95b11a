use Rattle.std.proofs.Common.{refl}
use Rattle.dist_rows.proofs.LimitLemmas.{within_one}
use Rattle.dist_rows.proofs.limits.mark_rest.Goals as goal

pub loop-i-preserved : goal.loop-i-preserved
loop-i-preserved c = within_one c.loop-i.i c.args.limit c.args.cells.now c.args.out.now c.loop-i.out _ c.requires.size c.loop-i-test.true c.loop-i.invariant refl
