use Rattle.std.proofs.Common.{◌-◌, length}
use Rattle.key_match.proofs.fit.run.Given as goal
use Rattle.key_match.proofs.Fits.{IsOn}

abbrev pub invariant-loop-reading : goal.invariant-loop-reading
invariant-loop-reading l = IsOn l.dialect l.pattern l.key l.fn.from l.at

abbrev pub decreases-loop-reading : goal.decreases-loop-reading
decreases-loop-reading l = length l.pattern - l.at.pattern
