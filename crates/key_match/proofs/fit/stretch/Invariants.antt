use Rattle.std.proofs.Common.{◌-◌, ◌+◌, length}
use Rattle.key_match.proofs.fit.stretch.Given as goal
use Rattle.key_match.proofs.Fits.{IsOnStretch}

abbrev pub invariant-loop-to : goal.invariant-loop-to
invariant-loop-to l = IsOnStretch l.dialect l.pattern l.key l.fn.from l.mark

abbrev pub decreases-loop-to : goal.decreases-loop-to
decreases-loop-to l = (length l.pattern - l.mark.pattern) + (length l.key - l.mark.key)
