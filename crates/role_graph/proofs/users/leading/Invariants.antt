use Rattle.role_graph.specs.Helps.Kept.{linked_of}
use Rattle.role_graph.proofs.LeadLemmas.{IsGoingBack}
use Rattle.role_graph.proofs.users.leading.Given as goal

abbrev pub invariant-loop-level : goal.invariant-loop-level
invariant-loop-level l = IsGoingBack (linked_of l.links) l.x l.most l._level l.marks
