use Rattle.std.proofs.Common.{List, ℕ, length, subst}
use Rattle.role_meaning.specs.Distances.{farthest}
use Rattle.role_meaning.specs.Least.{IsLeast}
use Rattle.role_meaning.proofs.CallerLemmas.{they_agree, they_differ}
use Rattle.role_graph.specs.Helps.Distances.{ReachesByGroup}
use Rattle.role_graph.specs.Helps.Kept.{linked_of}
use Rattle.role_graph.specs.Helps.Roles.{nodes_of}
use Rattle.role_graph.proofs.Nearest.{far_by_rows, far_itself, far_linked, far_nowhere, far_unfitted, link_by}
use Rattle.role_graph.proofs.asked.nearest.Goals as goal

pub returns-then-eq-clause-far : goal.returns-then-eq-clause-far
returns-then-eq-clause-far g c =
    far_itself (linked_of c.args.links.now) c.args.x.now c.args.y.now (they_agree c.args.x.now c.args.y.now c.eq.result c.eq.ensures c.if-eq.true)

pub returns-in_default-clause-far : goal.returns-in_default-clause-far
returns-in_default-clause-far g c =
    far_unfitted (linked_of c.args.links.now) c.args.x.now c.args.y.now c.in_default.ensures.none (they_differ c.args.x.now c.args.y.now c.eq.result c.eq.ensures c.if-eq.false)

pub returns-then-holds-clause-far : goal.returns-then-holds-clause-far
returns-then-holds-clause-far g c =
    far_linked (linked_of c.args.links.now) c.args.x.now c.args.y.now (they_differ c.args.x.now c.args.y.now c.eq.result c.eq.ensures c.if-eq.false)
    (link_by (linked_of c.args.links.now) c.args.x.now c.args.y.now c.in-Some.first c.roles_at.result.now c.in-Some.ensures.found.1 c.roles_at.ensures (c.holds.ensures.0 c.if-holds.true))

pub returns-in_default-place_of-clause-far : goal.returns-in_default-place_of-clause-far
returns-in_default-place_of-clause-far g c =
    far_nowhere (linked_of c.args.links.now) (nodes_of c.args.roles.now) c.args.x.now c.args.y.now c.requires.nodes c.in_default-place_of.ensures.none (they_differ c.args.x.now c.args.y.now c.eq.result c.eq.ensures c.if-eq.false)

pub returns-in-None-clause-far : goal.returns-in-None-clause-far
returns-in-None-clause-far g c =
    far_by_rows (linked_of c.args.links.now) c.args.x.now c.args.y.now c.nearest_by_rows.result (they_differ c.args.x.now c.args.y.now c.eq.result c.eq.ensures c.if-eq.false)
    (subst (λ (y : List ℕ). IsLeast farthest (λ links. ReachesByGroup (linked_of c.args.links.now) c.args.x.now y (length (linked_of c.args.links.now).groups) links) c.nearest_by_rows.result) c.in-Some-place_of.ensures.found.1
    c.nearest_by_rows.ensures.far)
