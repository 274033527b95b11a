use Rattle.std.proofs.Common.{◌≡◌, take}
use Rattle.policy_table.proofs.change.copy_edits.Given as goal

abbrev pub invariant-loop-edit : goal.invariant-loop-edit
invariant-loop-edit l = l.copy.items ≡ take l.edit-index l.edits
