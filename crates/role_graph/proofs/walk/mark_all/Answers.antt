use Rattle.std.proofs.Common.{◌≡◌, ◌++◌, ◌∷◌, [], List, ℕ, ◌+◌, take, sym, ap, subst, ◌∙◌}
use Rattle.std.proofs.lemmas.List.{take_more}
use Rattle.role_graph.specs.Helps.Kept.{linked_of}
use Rattle.role_graph.specs.Helps.Marks.{Extends, IsSet}
use Rattle.role_graph.specs.Helps.Walks.{FitsAt}
use Rattle.role_graph.proofs.WalkLemmas.{HaveMarked, have_marked_more, have_marked_none}
use Rattle.role_graph.proofs.walk.mark_all.Goals as goal

pub loop-name-init : goal.loop-name-init
loop-name-init c = have_marked_none (linked_of c.args.links.now) c.args.reached.now c.args.fresh.now

pub loop-name-preserved : goal.loop-name-preserved
loop-name-preserved c =
    let longer : take (c.loop-name.name-index + 1) c.args.names.now ≡ take c.loop-name.name-index c.args.names.now ++ c.name-item.result ∷ [] =
    take_more c.args.names.now c.loop-name.name-index c.name-item.result c.loop-name-test.true ∙ ap (λ (n : List ℕ). take c.loop-name.name-index c.args.names.now ++ n ∷ []) (sym c.name-item.is) in
    subst (λ (names : List (List ℕ)). HaveMarked (linked_of c.args.links.now) names c.args.reached.now c.args.fresh.now c.mark.new.reached c.mark.new.fresh) (sym longer)
    (have_marked_more (linked_of c.args.links.now) (take c.loop-name.name-index c.args.names.now) c.name-item.result c.args.reached.now c.args.fresh.now c.loop-name.reached c.loop-name.fresh c.mark.new.reached c.mark.new.fresh
    (subst (λ (n : List ℕ). Extends (λ at. FitsAt (linked_of c.args.links.now) n at) c.loop-name.reached c.loop-name.fresh c.mark.new.reached c.mark.new.fresh) c.bytes.ensures.value c.mark.ensures.marks)
    (subst (λ (n : List ℕ). (at : ℕ) → FitsAt (linked_of c.args.links.now) n at → IsSet c.mark.new.reached at) c.bytes.ensures.value c.mark.ensures.marked) c.loop-name.invariant)
