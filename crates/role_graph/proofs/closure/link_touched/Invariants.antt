use Rattle.role_graph.specs.Helps.Kept.{linked_of}
use Rattle.role_graph.specs.Helps.Roles.{nodes_of}
use Rattle.role_graph.specs.Helps.Squares.{IsLinking}
use Rattle.role_graph.proofs.closure.link_touched.Given as goal

abbrev pub invariant-loop-node : goal.invariant-loop-node
invariant-loop-node l = IsLinking (linked_of l.links) (nodes_of l.roles) l.touched l.node l.square.cells
