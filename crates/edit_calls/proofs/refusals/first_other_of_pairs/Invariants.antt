use Rattle.std.proofs.Common.{◌≡◌, drop}
use Rattle.edit_calls.specs.Refusals.{other_length}
use Rattle.edit_calls.proofs.RefusalLemmas.{both_rules}
use Rattle.edit_calls.proofs.refusals.first_other_of_pairs.Given as goal

-- what is left decides
abbrev pub invariant-loop-pair : goal.invariant-loop-pair
invariant-loop-pair l = other_length l.columns (both_rules (drop l.pair-index l.pairs)) ≡ other_length l.columns (both_rules l.pairs)
