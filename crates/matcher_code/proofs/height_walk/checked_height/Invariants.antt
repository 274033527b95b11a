use Rattle.matcher_code.specs.Helps.Checks.{IsWalked}
use Rattle.matcher_code.proofs.height_walk.checked_height.Given as goal

abbrev pub invariant-loop-at : goal.invariant-loop-at
invariant-loop-at l = IsWalked l.ops l.columns l.policy_columns l.at l.walk
