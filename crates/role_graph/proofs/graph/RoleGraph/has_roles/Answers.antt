use Rattle.std.proofs.Common.{IsTrue, None, subst}
use Rattle.std.specs.Prelude.{◌↔◌}
use Rattle.role_meaning.specs.Links.{HasRoles}
use Rattle.role_graph.specs.Graph.{Graph, shape_of}
use Rattle.role_graph.proofs.LinkLemmas.{roles_told}
use Rattle.role_graph.proofs.graph.RoleGraph.has_roles.Goals as goal

pub returns : goal.returns
returns c =
    subst (λ (graph : Graph). IsTrue c.has_fitting.result ↔ HasRoles (shape_of graph.names) graph.rows None c.args.x.now) c.self.view_is
    (roles_told c.self.inside.links c.args.x.now c.has_fitting.result c.self.invariant.links c.has_fitting.ensures)
