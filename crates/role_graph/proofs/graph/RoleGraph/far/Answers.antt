use Rattle.std.proofs.Common.{arith, subst}
use Rattle.role_graph.specs.Graph.{Graph, IsGraphFar}
use Rattle.role_graph.specs.Helps.Kept.{linked_of}
use Rattle.role_graph.proofs.AnswerLemmas.{far_told}
use Rattle.role_graph.proofs.graph.RoleGraph.far.Goals as goal

pub nearest-requires-clause-exact : goal.nearest-requires-clause-exact
nearest-requires-clause-exact g c = c.self.invariant.exact (omega (arith, c.size.ensures.value, c.if-size-gt0.true))

pub nearest-requires-clause-few : goal.nearest-requires-clause-few
nearest-requires-clause-few g c =
    omega (arith, (c.self.invariant.exact (omega (arith, c.size.ensures.value, c.if-size-gt0.true))).long, c.size.ensures.value, c.size.ensures.few)

pub returns-clause-far : goal.returns-clause-far
returns-clause-far g c =
    subst (λ (graph : Graph). IsGraphFar graph c.args.x.now c.args.y.now c.unwrap_or.result) c.self.view_is
    (far_told (linked_of c.self.inside.links) c.args.x.now c.args.y.now c.distance.result c.unwrap_or.result c.unwrap_or.ensures c.distance.ensures)
