use Rattle.std.proofs.Common.{arith}
use Rattle.std.proofs.lemmas.Bool.Decides.{nat_tests}
use Rattle.policy_table.proofs.StepLemmas.{needed_more, needed_one}
use Rattle.policy_table.proofs.prepared.PreparedTables.needed.Goals as goal

pub loop-step-preserved : goal.loop-step-preserved
loop-step-preserved c =
    let more = needed_more c.args.at c.deref-step-items.result.now c.loop-step.step-index c.step-item.result c.loop-step-test.true c.step-item.is in
    let one = needed_one c.args.at c.step-item.result c.puts_at.result c.puts_at.ensures in
    grind (arith, nat_tests)
