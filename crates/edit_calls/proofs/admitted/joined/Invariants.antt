use Rattle.std.proofs.Common.{◌≡◌, take}
use Rattle.policy_table.specs.Changes.{flat}
use Rattle.edit_calls.proofs.admitted.joined.Given as goal

abbrev pub invariant-loop-edit : goal.invariant-loop-edit
invariant-loop-edit l = l.changes.items ≡ flat (take l.edit-index l.edits)
