use Rattle.key_match.specs.Helps.Tokens.{pieces_at}
use Rattle.key_match.specs.Helps.Parts.{NoneLater}
use Rattle.key_match.proofs.part.last_fit.Given as goal

abbrev pub invariant-loop-end : goal.invariant-loop-end
invariant-loop-end l = NoneLater (pieces_at l.dialect l.pattern l.next) l.key l.ends.least l.ends.most l.end

abbrev pub decreases-loop-end : goal.decreases-loop-end
decreases-loop-end l = l.end
