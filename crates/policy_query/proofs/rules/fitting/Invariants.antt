use Rattle.std.proofs.Common.{◌≡◌, ℕ, drop, filter, take}
use Rattle.policy_table.specs.Filters.{fits_filter}
use Rattle.policy_table.specs.Tables.{Fields}
use Rattle.policy_query.proofs.rules.fitting.Given as goal

abbrev pub invariant-loop-rule : goal.invariant-loop-rule
invariant-loop-rule l = (n : ℕ) × (l.rule-iterator ≡ drop n l.fn.rules) × (l.fitting.items ≡ filter (λ (rule : Fields). fits_filter rule l.at l.values) (take n l.fn.rules))
