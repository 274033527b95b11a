use Rattle.std.proofs.Common.{◌≡◌, ◌≤◌, ◌-◌, ◌++◌, length, take}
use Rattle.key_match.specs.Fronts.{plain_bytes}
use Rattle.key_match.specs.Helps.Tokens.{pieces_at, pieces_of}
use Rattle.key_match.proofs.fronts.plain_front.Given as goal

abbrev pub invariant-loop-reading : goal.invariant-loop-reading
invariant-loop-reading l =
    (l.at ≤ length l.pattern) × (take l.at l.pattern ++ plain_bytes (pieces_at l.dialect l.pattern l.at) ≡ plain_bytes (pieces_of l.dialect l.pattern))

abbrev pub decreases-loop-reading : goal.decreases-loop-reading
decreases-loop-reading l = length l.pattern - l.at
