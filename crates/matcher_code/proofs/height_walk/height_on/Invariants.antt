use Rattle.std.proofs.Common.{◌≡◌, Some}
use Rattle.matcher_code.specs.Rules.{height_at}
use Rattle.matcher_code.proofs.height_walk.height_on.Given as goal

abbrev pub invariant-loop-at : goal.invariant-loop-at
invariant-loop-at l = height_at l.ops l.at ≡ Some l.reached
