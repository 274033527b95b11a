use Rattle.std.proofs.Common.{◌≡◌, ◌++◌, drop}
use Rattle.policy_table.proofs.prepared.push_steps.Given as goal

abbrev pub invariant-loop-change : goal.invariant-loop-change
invariant-loop-change l = l.steps.items ++ drop l.change-index l.changes ≡ l.initial.steps.items ++ l.changes
