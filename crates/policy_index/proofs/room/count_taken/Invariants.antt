use Rattle.std.proofs.Common.{◌≡◌, take}
use Rattle.policy_table.specs.Changes.{flat}
use Rattle.policy_index.specs.Indexed.{slots_taken}
use Rattle.policy_index.proofs.room.count_taken.Given as goal

abbrev pub invariant-loop-edit : goal.invariant-loop-edit
invariant-loop-edit l = l.count ≡ slots_taken (flat (take l.edit-index l.edits))
