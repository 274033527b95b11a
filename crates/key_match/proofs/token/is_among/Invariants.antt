use Rattle.std.proofs.Common.{◌≡◌, ◌-◌, length, drop}
use Rattle.std.specs.List.{list_any}
use Rattle.key_match.specs.Pieces.{in_range}
use Rattle.key_match.specs.Patterns.{ranges_of}
use Rattle.key_match.proofs.token.is_among.Given as goal

abbrev pub invariant-loop-at : goal.invariant-loop-at
invariant-loop-at l = list_any (in_range l.byte) (ranges_of (drop l.at l.items)) ≡ list_any (in_range l.byte) (ranges_of l.items)

abbrev pub decreases-loop-at : goal.decreases-loop-at
decreases-loop-at l = length l.items - l.at
