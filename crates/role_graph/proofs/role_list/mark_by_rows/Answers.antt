use Rattle.role_graph.specs.Helps.Kept.{linked_of}
use Rattle.role_graph.specs.Helps.Roles.{nodes_of}
use Rattle.role_graph.proofs.Nearest.{roles_of_nodes}
use Rattle.role_graph.proofs.role_list.mark_by_rows.Goals as goal

pub mark_by_roles-requires-clause-roles : goal.mark_by_roles-requires-clause-roles
mark_by_roles-requires-clause-roles c = λ role stands.
    roles_of_nodes (linked_of c.args.links.now) (nodes_of c.args.roles.now) c.in-Some.at c.roles_at.result.now role c.requires.nodes c.roles_at.ensures c.in-Some.ensures.found.1.within stands
