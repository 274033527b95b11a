use Rattle.std.proofs.Common.{◌≡◌, drop}
use Rattle.edit_calls.specs.Refusals.{has_long_field}
use Rattle.edit_calls.proofs.refusals.one_is_long.Given as goal

-- what is left decides
abbrev pub invariant-loop-at : goal.invariant-loop-at
invariant-loop-at g l = has_long_field (drop l.at (g.L.RuleList.rules l.rules)) ≡ has_long_field (g.L.RuleList.rules l.rules)
