use Rattle.std.proofs.Common.{◌≡◌, map, take}
use Rattle.policy_query.proofs.names.rule_of.Given as goal

abbrev pub invariant-loop-name : goal.invariant-loop-name
invariant-loop-name l = l.fields.items ≡ map (λ name. name.now) (take l.name-index l.names)
