use Rattle.std.proofs.Common.{◌≡◌, ◌++◌, filter, take}
use Rattle.role_domain.specs.Relations.{has_pattern}
use Rattle.role_domain.proofs.patterns.push_patterns.Given as goal

abbrev pub invariant-loop-row : goal.invariant-loop-row
invariant-loop-row l = l.found.items ≡ l.initial.found.items ++ filter (has_pattern l.fit) (take l.row-index l.rows)
