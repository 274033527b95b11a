use Rattle.role_graph.proofs.Closed.{AreLowered}
use Rattle.role_graph.proofs.insertion.lower_all.Given as goal

abbrev pub invariant-loop-node : goal.invariant-loop-node
invariant-loop-node l = AreLowered l.fn.square.cells l.from l.to l.node l.square.cells
