use Rattle.std.proofs.Common.{◌≡◌, ◌<◌, [], length, get_or, subst}
use Rattle.std.specs.Prelude.{IfNone, IfSome}
use Rattle.std.specs.List.{Contains, IsDistinct}
use Rattle.std.specs.Str.{bytes_eq}
use Rattle.role_graph.specs.Helps.Roles.{Counted, nodes_of}
use Rattle.role_graph.proofs.Keyed.{place_nowhere, place_there}
use Rattle.role_graph.proofs.roles.Roles.place_of.Goals as goal

pub returns-clause-found : goal.returns-clause-found
returns-clause-found c =
    subst (λ (d : Counted). IfSome c.get_index_of.result (λ node. (node < length (nodes_of d)) × (get_or (nodes_of d) node [] ≡ c.args.name.now))) c.self.view_is
    (place_there c.args.name.now c.self.inside.counts.entries c.get_index_of.result c.get_index_of.ensures.index)

pub returns-clause-none : goal.returns-clause-none
returns-clause-none c =
    subst (λ (d : Counted). IfNone c.get_index_of.result (Contains (nodes_of d) c.args.name.now → ⊥)) c.self.view_is
    (place_nowhere c.args.name.now c.self.inside.counts.entries c.get_index_of.result c.get_index_of.ensures.found)

pub returns-clause-once : goal.returns-clause-once
returns-clause-once c = subst (λ (d : Counted). IsDistinct bytes_eq (nodes_of d)) c.self.view_is c.get_index_of.ensures.unique
