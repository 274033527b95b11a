use Rattle.std.proofs.Common.{None, subst}
use Rattle.role_meaning.specs.Depths.{IsDepth}
use Rattle.role_graph.specs.Graph.{Graph, shape_of}
use Rattle.role_graph.proofs.graph.RoleGraph.depth.Goals as goal

pub returns : goal.returns
returns c = subst (λ (graph : Graph). IsDepth (shape_of graph.names) graph.rows graph.limit None c.args.x.now c.depth.result) c.self.view_is c.depth.ensures
