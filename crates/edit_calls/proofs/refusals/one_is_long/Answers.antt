use Rattle.edit_calls.proofs.RefusalLemmas.{any-passes, any-fails, is_long_rule}
use Rattle.edit_calls.proofs.refusals.one_is_long.Goals as goal

pub returns-then-is_long : goal.returns-then-is_long
returns-then-is_long g c = any-passes is_long_rule (g.L.RuleList.rules c.args.rules.now) c.loop-at.at _ c.at.ensures _ c.loop-at.invariant (cc)

pub loop-at-preserved : goal.loop-at-preserved
loop-at-preserved g c = any-fails is_long_rule (g.L.RuleList.rules c.args.rules.now) c.loop-at.at _ c.at.ensures _ c.loop-at.invariant (cc)
