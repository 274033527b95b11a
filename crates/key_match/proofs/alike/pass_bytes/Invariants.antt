use Rattle.std.proofs.Common.{◌-◌, length}
use Rattle.key_match.specs.Helps.Given.{PassesTo}
use Rattle.key_match.proofs.alike.pass_bytes.Given as goal

abbrev pub invariant-loop-reading : goal.invariant-loop-reading
invariant-loop-reading l = PassesTo l.pattern l.key l.fn.from l.at

abbrev pub decreases-loop-reading : goal.decreases-loop-reading
decreases-loop-reading l = length l.pattern - l.at.pattern
