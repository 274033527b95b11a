use Rattle.role_graph.specs.Helps.Distances.{ArePicked}
use Rattle.role_graph.specs.Helps.Roles.{nodes_of}
use Rattle.role_graph.proofs.role_list.names_of.Given as goal

abbrev pub invariant-loop-node : goal.invariant-loop-node
invariant-loop-node l = ArePicked (nodes_of l.roles) l.reached l.seen l.node l.names.items
