use Rattle.std.proofs.Common.{◌≡◌, ◌+◌, drop}
use Rattle.std.specs.List.{prefix_len}
use Rattle.key_match.specs.Patterns.{in_braces}
use Rattle.key_match.proofs.token.name_end.Given as goal

abbrev pub invariant-loop-at : goal.invariant-loop-at
invariant-loop-at l = l.from + prefix_len in_braces (drop l.from l.pattern) ≡ l.at + prefix_len in_braces (drop l.at l.pattern)
