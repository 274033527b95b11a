use Rattle.std.proofs.Common.{◌-◌, length}
use Rattle.key_match.specs.Helps.Tokens.{pieces_of}
use Rattle.key_match.specs.Helps.Parts.{order_of}
use Rattle.key_match.proofs.Settled.{IsSettled}
use Rattle.key_match.proofs.part.named_part.Given as goal

abbrev pub invariant-loop-reading : goal.invariant-loop-reading
invariant-loop-reading l = IsSettled (order_of l.segments) (pieces_of l.dialect l.pattern) l.dialect l.pattern l.key l.name l.at

abbrev pub decreases-loop-reading : goal.decreases-loop-reading
decreases-loop-reading l = length l.pattern - l.at.pattern
