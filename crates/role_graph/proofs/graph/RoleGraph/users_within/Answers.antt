use Rattle.std.proofs.Common.{None, map, subst, sym}
use Rattle.role_meaning.specs.ImpliedUsers.{AreUsersOf}
use Rattle.role_meaning.specs.Links.{user_of}
use Rattle.role_graph.specs.Graph.{Graph, shape_of}
use Rattle.role_graph.proofs.graph.RoleGraph.users_within.Goals as goal

pub from_vec-requires : goal.from_vec-requires
from_vec-requires c = record { few = c.in_ok-users.ensures.few; whole_lines = c.in_ok-users.ensures.whole_lines }

pub returns : goal.returns
returns c = subst (λ (graph : Graph). AreUsersOf (shape_of graph.names) graph.rows graph.limit None (map user_of c.args.among) c.args.x.now c.from_vec.result) c.self.view_is
    (subst (AreUsersOf (shape_of c.self.inside.links.names) _ c.self.inside.limit None (map user_of c.args.among) c.args.x.now) (sym c.from_vec.ensures) c.in_ok-users.ensures.users)
