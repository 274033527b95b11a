use Rattle.std.proofs.Common.{◌≡◌, ℕ, length}
use Rattle.policy_index.specs.Lists.{slots_at}
use Rattle.policy_index.proofs.changes.forget_all.Given as goal

abbrev pub invariant-loop-hash : goal.invariant-loop-hash
invariant-loop-hash l = (hash : ℕ) → slots_at l.slots hash ≡ slots_at l.fn.slots hash

abbrev pub decreases-loop-hash : goal.decreases-loop-hash
decreases-loop-hash l = length l.emptied.items
