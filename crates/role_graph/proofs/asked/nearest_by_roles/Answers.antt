use Rattle.std.proofs.Common.{◌≡◌, ◌+◌, ◌++◌, ◌∷◌, [], List, ℕ, take, sym, ap, subst, ◌∙◌, arith}
use Rattle.std.proofs.lemmas.List.{take_all, take_more}
use Rattle.role_meaning.specs.Distances.{farthest}
use Rattle.role_meaning.specs.Least.{IsLeast}
use Rattle.role_graph.specs.Helps.Distances.{ReachesBy, ReachesBySome}
use Rattle.role_graph.specs.Helps.Kept.{linked_of}
use Rattle.role_graph.specs.Helps.Roles.{nodes_of}
use Rattle.role_graph.specs.Helps.Squares.{name_at}
use Rattle.role_graph.proofs.Nearest.{least_by_more}
use Rattle.role_graph.proofs.asked.nearest_by_roles.Goals as goal

pub loop-name-preserved : goal.loop-name-preserved
loop-name-preserved g c =
    let longer : take (c.loop-name.name-index + 1) c.args.names.now ≡ take c.loop-name.name-index c.args.names.now ++ c.name-item.result ∷ [] =
    take_more c.args.names.now c.loop-name.name-index c.name-item.result c.loop-name-test.true ∙ ap (λ (n : List ℕ). take c.loop-name.name-index c.args.names.now ++ n ∷ []) (sym c.name-item.is) in
    record {
      far = subst (λ (names : List (List ℕ)). IsLeast farthest (λ links. ReachesBySome (linked_of c.args.links.now) names (name_at (nodes_of c.args.roles.now) c.args.to) links) c.min-least.result) (sym longer)
          (least_by_more (linked_of c.args.links.now) (take c.loop-name.name-index c.args.names.now) c.name-item.result (name_at (nodes_of c.args.roles.now) c.args.to) c.loop-name.least c.nearest_by_role.result c.min-least.result c.loop-name.invariant.far
          (subst (λ (role : List ℕ). IsLeast farthest (λ links. ReachesBy (linked_of c.args.links.now) role (name_at (nodes_of c.args.roles.now) c.args.to) links) c.nearest_by_role.result) c.bytes.ensures.value c.nearest_by_role.ensures.far)
          c.min-least.ensures);
      steps = omega (arith, c.nearest_by_role.ensures.steps, c.loop-name.invariant.steps);
    }

pub returns-clause-far : goal.returns-clause-far
returns-clause-far g c =
    subst (λ (names : List (List ℕ)). IsLeast farthest (λ links. ReachesBySome (linked_of c.args.links.now) names (name_at (nodes_of c.args.roles.now) c.args.to) links) c.loop-name.least)
    (take_all c.loop-name.name-index c.args.names.now c.loop-name-test.false) c.loop-name.invariant.far
