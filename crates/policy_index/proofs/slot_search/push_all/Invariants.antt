use Rattle.std.proofs.Common.{◌≡◌, ◌++◌, drop}
use Rattle.policy_index.proofs.slot_search.push_all.Given as goal

abbrev pub invariant-loop-slot : goal.invariant-loop-slot
invariant-loop-slot l = l.slots.items ++ drop l.slot-index l.more ≡ l.fn.slots.items ++ l.more
