use Rattle.std.proofs.Common.{◌≡◌, ◌<◌, ◌+◌, ◌++◌, ◌∷◌, [], List, ℕ, length, take, sym, ap, subst, ◌∙◌}
use Rattle.std.specs.List.{Contains}
use Rattle.std.proofs.lemmas.List.{take_more}
use Rattle.std.proofs.lemmas.List.Elements.{Contains-get_or}
use Rattle.role_graph.specs.Helps.Roles.{nodes_of}
use Rattle.role_graph.specs.Helps.Squares.{Grows, IsNear, name_at}
use Rattle.role_graph.proofs.LinkedLemmas.{HasNamed, has_named_more}
use Rattle.role_graph.proofs.closure.link_names.Goals as goal

pub loop-name-preserved : goal.loop-name-preserved
loop-name-preserved c =
    let longer : take (c.loop-name.name-index + 1) c.args.names.now ≡ take c.loop-name.name-index c.args.names.now ++ c.name-item.result ∷ [] =
    take_more c.args.names.now c.loop-name.name-index c.name-item.result c.loop-name-test.true ∙ ap (λ (n : List ℕ). take c.loop-name.name-index c.args.names.now ++ n ∷ []) (sym c.name-item.is) in
    subst (λ (names : List (List ℕ)). HasNamed (nodes_of c.args.roles.now) c.args.names.now c.args.node names c.args.square.now.cells c.link_name.new.square.cells) (sym longer)
    (has_named_more (nodes_of c.args.roles.now) c.args.names.now c.args.node (take c.loop-name.name-index c.args.names.now) c.name-item.result c.args.square.now.cells c.loop-name.square.cells c.link_name.new.square.cells
    (subst (Contains c.args.names.now) (sym c.name-item.is) (Contains-get_or c.args.names.now c.loop-name.name-index c.name-item.result c.loop-name-test.true)) c.link_name.ensures.long
    (subst (λ (n : List ℕ). Grows (λ a b. (a ≡ c.args.node) × (name_at (nodes_of c.args.roles.now) b ≡ n)) c.loop-name.square.cells c.link_name.new.square.cells) c.bytes.ensures.value c.link_name.ensures.grows)
    (subst (λ (n : List ℕ). (b : ℕ) → b < length (nodes_of c.args.roles.now) → name_at (nodes_of c.args.roles.now) b ≡ n → IsNear c.link_name.new.square.cells c.args.node b) c.bytes.ensures.value c.link_name.ensures.whole)
    c.loop-name.invariant)
