use Rattle.std.proofs.Common.{◌-◌}
use Rattle.role_graph.specs.Helps.Kept.{linked_of}
use Rattle.role_graph.specs.Helps.Roles.{nodes_of}
use Rattle.role_graph.proofs.MarkedLinks.{AreLinkedBefore}
use Rattle.role_graph.proofs.linked_nodes.linked_nodes.Given as goal

abbrev pub decreases-loop-at : goal.decreases-loop-at
decreases-loop-at l = 200000 - l.place

abbrev pub invariant-loop-at : goal.invariant-loop-at
invariant-loop-at l = AreLinkedBefore (linked_of l.links) (nodes_of l.roles) l.node l.place l.marks
