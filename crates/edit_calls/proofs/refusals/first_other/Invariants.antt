use Rattle.std.proofs.Common.{◌≡◌, drop}
use Rattle.edit_calls.specs.Refusals.{other_length}
use Rattle.edit_calls.proofs.refusals.first_other.Given as goal

-- what is left decides
abbrev pub invariant-loop-at : goal.invariant-loop-at
invariant-loop-at l = other_length l.columns (drop l.at l.rules) ≡ other_length l.columns l.rules
