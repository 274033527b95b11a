use Rattle.std.proofs.Common.{◌≡◌, take}
use Rattle.policy_table.proofs.table.copy_of.Given as goal

abbrev pub invariant-loop-rule : goal.invariant-loop-rule
invariant-loop-rule l = l.set.keys ≡ take l.rule-index l.by_slot
