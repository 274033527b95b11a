use Rattle.role_graph.specs.Helps.Kept.{linked_of}
use Rattle.role_graph.proofs.LeadLemmas.{HasStepped}
use Rattle.role_graph.proofs.users.step_back.Given as goal

abbrev pub invariant-loop-at : goal.invariant-loop-at
invariant-loop-at l = HasStepped (linked_of l.links) l.x l.marks l.at l.more
