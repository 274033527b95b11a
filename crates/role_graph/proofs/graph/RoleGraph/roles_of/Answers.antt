use Rattle.std.proofs.Common.{subst}
use Rattle.std.specs.Prelude.{◌↔◌}
use Rattle.std.specs.List.{Contains}
use Rattle.role_graph.specs.Graph.{Graph}
use Rattle.role_graph.specs.Groups.{row}
use Rattle.role_graph.proofs.Reached.{roles_told}
use Rattle.role_graph.proofs.graph.RoleGraph.roles_of.Goals as goal

pub returns : goal.returns
returns c = λ role.
    subst (λ (graph : Graph). Contains c.roles_of.result.now role ↔ Contains graph.rows (row c.args.user.now role)) c.self.view_is
    (roles_told c.self.inside.links c.args.user.now role c.roles_of.result.now c.self.invariant.links c.roles_of.ensures)
