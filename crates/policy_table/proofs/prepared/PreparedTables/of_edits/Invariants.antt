use Rattle.std.proofs.Common.{◌≡◌, take}
use Rattle.policy_table.specs.Changes.{flat}
use Rattle.policy_table.proofs.prepared.PreparedTables.of_edits.Given as goal

abbrev pub invariant-loop-edit : goal.invariant-loop-edit
invariant-loop-edit l = l.steps.items ≡ flat (take l.edit-index l.edits)
