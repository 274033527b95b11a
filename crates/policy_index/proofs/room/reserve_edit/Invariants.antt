use Rattle.std.proofs.Common.{◌≡◌, ℕ, ◌+◌, ◌≤◌, length, take}
use Rattle.policy_index.specs.Indexed.{puts}
use Rattle.policy_index.specs.Lists.{room_at, slots_at}
use Rattle.policy_index.proofs.room.reserve_edit.Given as goal

abbrev pub invariant-loop-change : goal.invariant-loop-change
invariant-loop-change l = record {
  slots : (hash : ℕ) → slots_at l.slots hash ≡ slots_at l.initial.slots hash;
  more : (hash : ℕ) → room_at l.initial.slots hash ≤ room_at l.slots hash;
  counted : (hash : ℕ) → length (slots_at l.counts hash) ≡ length (slots_at l.initial.counts hash) + puts l.key hash (take l.change-index l.changes);
  room : (hash : ℕ) → length (slots_at l.initial.counts hash) ≤ room_at l.initial.slots hash → length (slots_at l.counts hash) ≤ room_at l.slots hash;
}
