use Rattle.demo_run.proofs.TextLemmas.{below_more}
use Rattle.demo_run.specs.DemoTexts.{ask_line}
use Rattle.demo_run.proofs.texts.push_asks.Goals as goal

pub loop-number-preserved : goal.loop-number-preserved
loop-number-preserved c = below_more ask_line c.loop-number.number c.args.text.now c.loop-number.text c.push_ask.new.text c.loop-number.invariant c.in_ok-push_ask.ensures
