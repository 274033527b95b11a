use Rattle.policy_state.proofs.LogLemmas.{Pushes}
use Rattle.policy_state.proofs.edits.push_all.Given as goal

abbrev pub invariant-loop-edit : goal.invariant-loop-edit
invariant-loop-edit l = Pushes l.fn.edits.items l.fn.log l.edit-iterator.rest.items l.log
