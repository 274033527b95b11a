use Rattle.std.proofs.Common.{ap, arith, ◌∙◌}
use Rattle.role_graph.specs.Graph.{Graph}
use Rattle.role_graph.specs.Helps.Kept.{linked_of}
use Rattle.role_graph.specs.Helps.Roles.{nodes_of}
use Rattle.role_graph.specs.Reach.{reached_in}
use Rattle.role_graph.proofs.Reached.{nodes_few}
use Rattle.role_graph.proofs.graph.RoleGraph.reach.Goals as goal

pub mark_kept-requires-clause-exact : goal.mark_kept-requires-clause-exact
mark_kept-requires-clause-exact c = c.self.invariant.exact (omega (arith, c.size.ensures.value, c.if-size-gt0.true))

pub mark_kept-requires-clause-few : goal.mark_kept-requires-clause-few
mark_kept-requires-clause-few c =
    omega (arith, (c.self.invariant.exact (omega (arith, c.size.ensures.value, c.if-size-gt0.true))).long, c.size.ensures.value, c.size.ensures.few)

pub mark_kept-requires-clause-most : goal.mark_kept-requires-clause-most
mark_kept-requires-clause-most c = let limited = c.self.invariant.limited in omega (arith, limited)

pub returns-then-size-gt0 : goal.returns-then-size-gt0
returns-then-size-gt0 c = c.of.ensures ∙ ap (λ (graph : Graph). reached_in graph c.args.x.now) c.self.view_is

pub mark_walked-requires-clause-few : goal.mark_walked-requires-clause-few
mark_walked-requires-clause-few c = nodes_few (linked_of c.self.inside.links) (nodes_of c.self.inside.roles) c.self.invariant.nodes c.self.invariant.few

pub mark_walked-requires-clause-most : goal.mark_walked-requires-clause-most
mark_walked-requires-clause-most c = let limited = c.self.invariant.limited in omega (arith, limited)

pub returns : goal.returns
returns c = c.of-2.ensures ∙ ap (λ (graph : Graph). reached_in graph c.args.x.now) c.self.view_is
