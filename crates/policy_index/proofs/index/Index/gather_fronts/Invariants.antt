use Rattle.std.proofs.Common.{◌≡◌, ◌+◌, take}
use Rattle.policy_index.specs.Hashes.{front_hash}
use Rattle.policy_index.specs.Helps.FoundSlots.{AddsMarks, has_front_below}
use Rattle.policy_index.proofs.index.Index.gather_fronts.Given as goal

abbrev pub invariant-loop-at : goal.invariant-loop-at
invariant-loop-at l = record {
  hash : l.front ≡ front_hash l.hash (take l.at l.text);
  adds : AddsMarks (has_front_below l.hash l.text (l.at + 1)) l.self.marks l.fn.slots.items l.slots.items;
}
