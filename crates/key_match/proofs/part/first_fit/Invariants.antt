use Rattle.std.proofs.Common.{◌-◌}
use Rattle.key_match.specs.Helps.Tokens.{pieces_at}
use Rattle.key_match.specs.Helps.Parts.{NoneEarlier}
use Rattle.key_match.proofs.part.first_fit.Given as goal

abbrev pub invariant-loop-end : goal.invariant-loop-end
invariant-loop-end l = NoneEarlier (pieces_at l.dialect l.pattern l.next) l.key l.ends.least l.ends.most l.end

abbrev pub decreases-loop-end : goal.decreases-loop-end
decreases-loop-end l = l.ends.most - l.end
