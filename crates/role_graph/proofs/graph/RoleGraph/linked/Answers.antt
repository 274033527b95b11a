use Rattle.std.proofs.Common.{IsTrue, arith, subst}
use Rattle.std.specs.Prelude.{◌↔◌, nat_le}
use Rattle.role_graph.specs.Graph.{Graph, GraphReaches}
use Rattle.role_graph.specs.Helps.Kept.{linked_of}
use Rattle.role_graph.proofs.AnswerLemmas.{kept_told, linked_told}
use Rattle.role_graph.proofs.graph.RoleGraph.linked.Goals as goal

pub nearest-requires-clause-exact : goal.nearest-requires-clause-exact
nearest-requires-clause-exact g c = c.self.invariant.exact (omega (arith, c.size.ensures.value, c.if-size-gt0.true))

pub nearest-requires-clause-few : goal.nearest-requires-clause-few
nearest-requires-clause-few g c =
    omega (arith, (c.self.invariant.exact (omega (arith, c.size.ensures.value, c.if-size-gt0.true))).long, c.size.ensures.value, c.size.ensures.few)

pub returns-then-size-gt0-clause-found : goal.returns-then-size-gt0-clause-found
returns-then-size-gt0-clause-found g c =
    subst (λ (graph : Graph). IsTrue (nat_le c.nearest.result c.self.inside.limit) ↔ GraphReaches graph graph.limit c.args.x.now c.args.y.now) c.self.view_is
    (kept_told (linked_of c.self.inside.links) c.args.x.now c.args.y.now c.self.inside.limit c.nearest.result c.self.invariant.limited c.nearest.ensures.far)

pub returns-clause-found : goal.returns-clause-found
returns-clause-found g c =
    subst (λ (graph : Graph). IsTrue c.is_some.result ↔ GraphReaches graph graph.limit c.args.x.now c.args.y.now) c.self.view_is
    (linked_told (linked_of c.self.inside.links) c.args.x.now c.args.y.now c.self.inside.limit c.distance.result c.is_some.result c.is_some.ensures c.distance.ensures)
