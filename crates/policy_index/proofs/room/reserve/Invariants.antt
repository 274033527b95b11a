use Rattle.std.proofs.Common.{◌≡◌, ℕ, ◌≤◌, length, take}
use Rattle.policy_table.specs.Changes.{flat}
use Rattle.policy_index.specs.Indexed.{puts}
use Rattle.policy_index.specs.Lists.{room_at, slots_at}
use Rattle.policy_index.proofs.room.reserve.Given as goal

abbrev pub invariant-loop-edit : goal.invariant-loop-edit
invariant-loop-edit l = record {
  slots : (hash : ℕ) → slots_at l.slots hash ≡ slots_at l.initial.slots hash;
  more : (hash : ℕ) → room_at l.initial.slots hash ≤ room_at l.slots hash;
  counted : (hash : ℕ) → length (slots_at l.counts hash) ≡ puts l.key hash (flat (take l.edit-index l.edits));
  room : (hash : ℕ) → length (slots_at l.counts hash) ≤ room_at l.slots hash;
}
