use Rattle.policy_table.proofs.StepLemmas.{flat_more}
use Rattle.policy_table.proofs.prepared.PreparedTables.of_edits.Goals as goal

pub loop-edit-preserved : goal.loop-edit-preserved
loop-edit-preserved c =
    let more = flat_more c.args.edits.now c.loop-edit.edit-index c.edit-item.result c.loop-edit-test.true c.edit-item.is in
    cc (c.in_ok-push_steps.ensures, c.loop-edit.invariant)
