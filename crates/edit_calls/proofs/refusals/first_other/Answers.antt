use Rattle.edit_calls.proofs.RefusalLemmas.{rule-refused, rule-passes}
use Rattle.edit_calls.proofs.refusals.first_other.Goals as goal

pub returns-in-Some : goal.returns-in-Some
returns-in-Some c = rule-refused c.args.columns c.args.rules.now c.loop-at.at _ c.at.ensures _ c.loop-at.invariant _ (cc)

pub loop-at-preserved : goal.loop-at-preserved
loop-at-preserved c = rule-passes c.args.columns c.args.rules.now c.loop-at.at _ c.at.ensures _ c.loop-at.invariant (cc)
