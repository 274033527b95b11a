use Rattle.std.proofs.Common.{◌≡◌, ◌+◌, ◌++◌, ◌∷◌, [], List, ℕ, suc, take, sym, ap, subst, ◌∙◌}
use Rattle.std.proofs.lemmas.List.{take_more}
use Rattle.role_graph.specs.Helps.Distances.{ReachesBy, ReachesBySome}
use Rattle.role_graph.specs.Helps.Kept.{linked_of}
use Rattle.role_graph.specs.Helps.Roles.{nodes_of}
use Rattle.role_graph.specs.Helps.Squares.{name_at}
use Rattle.role_graph.proofs.PickLemmas.{MarksAlso, some_within}
use Rattle.role_graph.proofs.role_list.mark_by_roles.Goals as goal

pub loop-name-preserved : goal.loop-name-preserved
loop-name-preserved c = λ a within.
    let longer : take (c.loop-name.name-index + 1) c.args.names.now ≡ take c.loop-name.name-index c.args.names.now ++ c.name-item.result ∷ [] =
    take_more c.args.names.now c.loop-name.name-index c.name-item.result c.loop-name-test.true ∙ ap (λ (n : List ℕ). take c.loop-name.name-index c.args.names.now ++ n ∷ []) (sym c.name-item.is) in
    subst (λ (names : List (List ℕ)). MarksAlso (λ b. ReachesBySome (linked_of c.args.links.now) names (name_at (nodes_of c.args.roles.now) b) (suc c.args.most)) c.args.marks.now c.mark_by_role.new.marks a) (sym longer)
    (some_within (linked_of c.args.links.now) (nodes_of c.args.roles.now) (take c.loop-name.name-index c.args.names.now) c.name-item.result (suc c.args.most) c.args.marks.now c.loop-name.marks c.mark_by_role.new.marks a (c.loop-name.invariant a within)
    (subst (λ (role : List ℕ). MarksAlso (λ b. ReachesBy (linked_of c.args.links.now) role (name_at (nodes_of c.args.roles.now) b) (suc c.args.most)) c.loop-name.marks c.mark_by_role.new.marks a) c.bytes.ensures.value (c.mark_by_role.ensures a within)))
