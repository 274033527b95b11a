use Rattle.std.proofs.Common.{◌-◌}
use Rattle.key_match.specs.Helps.Tokens.{pieces_at}
use Rattle.key_match.proofs.Halved.{IsHalved}
use Rattle.key_match.proofs.part.last_to_end.Given as goal

abbrev pub invariant-loop-low : goal.invariant-loop-low
invariant-loop-low l = IsHalved (pieces_at l.dialect l.pattern l.next) l.key l.fn.ends.least l.fn.ends.most l.low l.high

abbrev pub decreases-loop-low : goal.decreases-loop-low
decreases-loop-low l = l.high - l.low
