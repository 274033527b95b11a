use Rattle.std.proofs.Common.{subst}
use Rattle.std.specs.List.{IsDistinct}
use Rattle.std.specs.Str.{bytes_eq}
use Rattle.role_graph.specs.Helps.Roles.{Counted, nodes_of}
use Rattle.role_graph.proofs.roles.Roles.len.Goals as goal

pub returns-clause-once : goal.returns-clause-once
returns-clause-once c = subst (λ (d : Counted). IsDistinct bytes_eq (nodes_of d)) c.self.view_is c.len.ensures.unique
