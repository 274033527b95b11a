use Rattle.std.proofs.Common.{IsTrue, true, false, subst, arith}
use Rattle.std.specs.Prelude.{◌↔◌}
use Rattle.role_meaning.proofs.CallerLemmas.{they_agree, they_differ}
use Rattle.role_graph.specs.Helps.Kept.{linked_of}
use Rattle.role_graph.specs.Helps.Roles.{nodes_of}
use Rattle.role_graph.specs.Reach.{Reached, ReachesName}
use Rattle.role_graph.proofs.Reached.{reach_itself, reach_nowhere, reach_role}
use Rattle.role_graph.proofs.reach.Reach.has.Goals as goal

pub returns-then-eq : goal.returns-then-eq
returns-then-eq c =
    subst (λ (reached : Reached). IsTrue true ↔ ReachesName reached c.args.y.now) c.self.view_is
    (reach_itself (linked_of c.self.inside.links.now) c.self.inside.name.now c.args.y.now c.self.inside.limit (they_agree c.self.inside.name.now c.args.y.now c.eq.result c.eq.ensures c.if-eq.true))

pub returns-in_default : goal.returns-in_default
returns-in_default c =
    subst (λ (reached : Reached). IsTrue false ↔ ReachesName reached c.args.y.now) c.self.view_is
    (reach_nowhere (linked_of c.self.inside.links.now) (nodes_of c.self.inside.roles.now) c.self.inside.name.now c.args.y.now c.self.inside.marks.now c.self.inside.limit
    (they_differ c.self.inside.name.now c.args.y.now c.eq.result c.eq.ensures c.if-eq.false) c.in_default.ensures.none c.self.invariant)

pub has-requires : goal.has-requires
has-requires c = let few = c.self.invariant.few in let within = c.in-Some.ensures.found.0 in omega (arith, few, within)

pub returns : goal.returns
returns c =
    subst (λ (reached : Reached). IsTrue c.has.result ↔ ReachesName reached c.args.y.now) c.self.view_is
    (reach_role (linked_of c.self.inside.links.now) (nodes_of c.self.inside.roles.now) c.self.inside.name.now c.args.y.now c.self.inside.marks.now c.self.inside.limit c.in-Some.node c.has.result
    (they_differ c.self.inside.name.now c.args.y.now c.eq.result c.eq.ensures c.if-eq.false) c.in-Some.ensures.found.0 c.in-Some.ensures.found.1 c.has.ensures c.self.invariant)
