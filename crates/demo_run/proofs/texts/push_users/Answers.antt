use Rattle.demo_run.proofs.TextLemmas.{below_more}
use Rattle.demo_run.specs.DemoTexts.{user_line}
use Rattle.demo_run.proofs.texts.push_users.Goals as goal

pub loop-number-preserved : goal.loop-number-preserved
loop-number-preserved c = below_more user_line c.loop-number.number c.args.text.now c.loop-number.text c.push_user.new.text c.loop-number.invariant c.in_ok-push_user.ensures
