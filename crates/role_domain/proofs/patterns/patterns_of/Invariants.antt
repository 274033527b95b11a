use Rattle.std.proofs.Common.{◌≡◌, ℕ, drop, filter, take}
use Rattle.role_domain.specs.Relations.{has_pattern}
use Rattle.role_domain.proofs.patterns.patterns_of.Given as goal

abbrev pub invariant-loop-row : goal.invariant-loop-row
invariant-loop-row l = (n : ℕ) × (l.row-iterator ≡ drop n l.fn.rows) × (l.found.items ≡ filter (has_pattern l.fit) (take n l.fn.rows))
