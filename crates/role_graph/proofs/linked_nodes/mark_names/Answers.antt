use Rattle.std.proofs.Common.{◌≡◌, ◌+◌, ◌++◌, ◌∷◌, [], List, ℕ, take, sym, ap, subst, ◌∙◌}
use Rattle.std.specs.List.{Contains}
use Rattle.std.proofs.lemmas.List.{take_more}
use Rattle.role_graph.specs.Helps.Roles.{nodes_of}
use Rattle.role_graph.specs.Helps.Squares.{name_at}
use Rattle.role_graph.proofs.MarkedLinks.{names_more, names_none}
use Rattle.role_graph.proofs.PickLemmas.{MarksAlso}
use Rattle.role_graph.proofs.linked_nodes.mark_names.Goals as goal

pub loop-name-init : goal.loop-name-init
loop-name-init c = λ b low within. names_none (nodes_of c.args.roles.now) c.args.marks.now b

pub loop-name-preserved : goal.loop-name-preserved
loop-name-preserved c = λ b low within.
    let longer : take (c.loop-name.name-index + 1) c.args.names.now ≡ take c.loop-name.name-index c.args.names.now ++ c.name-item.result ∷ [] =
    take_more c.args.names.now c.loop-name.name-index c.name-item.result c.loop-name-test.true ∙ ap (λ (n : List ℕ). take c.loop-name.name-index c.args.names.now ++ n ∷ []) (sym c.name-item.is) in
    subst (λ (names : List (List ℕ)). MarksAlso (λ k. Contains names (name_at (nodes_of c.args.roles.now) k)) c.args.marks.now c.mark_name.new.marks b) (sym longer)
    (names_more (nodes_of c.args.roles.now) (take c.loop-name.name-index c.args.names.now) c.name-item.result c.args.marks.now c.loop-name.marks c.mark_name.new.marks b (c.loop-name.invariant b low within)
    (subst (λ (name : List ℕ). MarksAlso (λ k. name_at (nodes_of c.args.roles.now) k ≡ name) c.loop-name.marks c.mark_name.new.marks b) c.bytes.ensures.value (c.mark_name.ensures b low within)))
