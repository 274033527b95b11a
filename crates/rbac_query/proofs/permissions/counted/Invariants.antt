use Rattle.std.proofs.Common.{◌≡◌, ℕ, drop, filter, take}
use Rattle.std.specs.Option.{option_copied}
use Rattle.rbac_query.specs.Helps.Tests.{is_counted}
use Rattle.rbac_query.proofs.permissions.counted.Given as goal

abbrev pub invariant-loop-rule : goal.invariant-loop-rule
invariant-loop-rule l =
    (n : ℕ) × (l.rule-iterator ≡ drop n l.fn.rules) × (l.counted.items ≡ filter (is_counted l.name l.roles.keys l.subject l.column (option_copied l.domain)) (take n l.fn.rules))
