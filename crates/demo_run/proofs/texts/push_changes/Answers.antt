use Rattle.demo_run.proofs.TextLemmas.{below_more}
use Rattle.demo_run.specs.DemoTexts.{change_lines}
use Rattle.demo_run.proofs.texts.push_changes.Goals as goal

pub loop-number-preserved : goal.loop-number-preserved
loop-number-preserved c = below_more change_lines c.loop-number.number c.args.text.now c.loop-number.text c.push_change.new.text c.loop-number.invariant c.in_ok-push_change.ensures
