use Rattle.std.proofs.Common.{◌≡◌}
use Rattle.key_match.specs.Helps.Given.{given_part}
use Rattle.key_match.proofs.alike.part_of.Given as goal

abbrev pub invariant-loop-at : goal.invariant-loop-at
invariant-loop-at l = given_part l.at l.name ≡ given_part l.given l.name
