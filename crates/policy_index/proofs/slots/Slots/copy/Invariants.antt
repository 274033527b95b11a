use Rattle.std.proofs.Common.{◌≡◌, take}
use Rattle.policy_index.proofs.CopyLemmas.{slots_only}
use Rattle.policy_index.proofs.slots.Slots.copy.Given as goal

abbrev pub invariant-loop-at : goal.invariant-loop-at
invariant-loop-at l = slots_only l.lists.entries ≡ slots_only (take l.at l.self)
