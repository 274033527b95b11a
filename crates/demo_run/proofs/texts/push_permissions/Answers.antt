use Rattle.demo_run.proofs.TextLemmas.{below_more}
use Rattle.demo_run.specs.DemoTexts.{permission_line}
use Rattle.demo_run.proofs.texts.push_permissions.Goals as goal

pub loop-number-preserved : goal.loop-number-preserved
loop-number-preserved c = below_more permission_line c.loop-number.number c.args.text.now c.loop-number.text c.push_permission.new.text c.loop-number.invariant c.in_ok-push_permission.ensures
