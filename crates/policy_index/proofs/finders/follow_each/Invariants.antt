use Rattle.policy_index.proofs.FinderLemmas.{Follow}
use Rattle.policy_index.proofs.finders.follow_each.Given as goal

abbrev pub invariant-loop-at : goal.invariant-loop-at
invariant-loop-at l = Follow l.change l.tables l.fn.finders.items l.finders.items l.at
