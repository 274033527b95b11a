use Rattle.std.proofs.Common.{◌≡◌, ◌+◌, ◌++◌, ◌∷◌, [], List, ℕ, take, sym, ap, subst, ◌∙◌}
use Rattle.std.specs.List.{Contains}
use Rattle.std.proofs.lemmas.List.{take_all, take_more}
use Rattle.role_meaning.proofs.CallerLemmas.{stands_nowhere}
use Rattle.role_graph.specs.Helps.ReachMarks.{SetsAlso}
use Rattle.role_graph.specs.Helps.Roles.{nodes_of}
use Rattle.role_graph.specs.Helps.Squares.{name_at}
use Rattle.role_graph.proofs.Reached.{roles_set, sets_none}
use Rattle.role_graph.proofs.reached_roles.mark_roles.Goals as goal

pub loop-name-init : goal.loop-name-init
loop-name-init c = λ a within. sets_none (λ b. Contains (take 0 c.args.names.now) (name_at (nodes_of c.args.roles.now) b)) c.args.marks.now a (λ stands. stands_nowhere (name_at (nodes_of c.args.roles.now) a) stands)

pub loop-name-preserved : goal.loop-name-preserved
loop-name-preserved c = λ a within.
    let longer : take (c.loop-name.name-index + 1) c.args.names.now ≡ take c.loop-name.name-index c.args.names.now ++ c.name-item.result ∷ [] =
    take_more c.args.names.now c.loop-name.name-index c.name-item.result c.loop-name-test.true ∙ ap (λ (n : List ℕ). take c.loop-name.name-index c.args.names.now ++ n ∷ []) (sym c.name-item.is) in
    subst (λ (names : List (List ℕ)). SetsAlso (λ b. Contains names (name_at (nodes_of c.args.roles.now) b)) c.args.marks.now c.mark_role.new.marks a) (sym longer)
    (roles_set (nodes_of c.args.roles.now) (take c.loop-name.name-index c.args.names.now) c.name-item.result c.args.marks.now c.loop-name.marks c.mark_role.new.marks a (c.loop-name.invariant a within)
    (subst (λ (role : List ℕ). SetsAlso (λ b. name_at (nodes_of c.args.roles.now) b ≡ role) c.loop-name.marks c.mark_role.new.marks a) c.bytes.ensures.value (c.mark_role.ensures a within)))

pub returns : goal.returns
returns c = λ a within.
    subst (λ (names : List (List ℕ)). SetsAlso (λ b. Contains names (name_at (nodes_of c.args.roles.now) b)) c.args.marks.now c.loop-name.marks a) (take_all c.loop-name.name-index c.args.names.now c.loop-name-test.false) (c.loop-name.invariant a within)
