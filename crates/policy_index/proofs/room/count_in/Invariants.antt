use Rattle.std.proofs.Common.{◌≡◌, ◌+◌, take}
use Rattle.policy_index.specs.Indexed.{slots_taken}
use Rattle.policy_index.proofs.room.count_in.Given as goal

abbrev pub invariant-loop-change : goal.invariant-loop-change
invariant-loop-change l = l.count ≡ l.before + slots_taken (take l.change-index l.changes)
