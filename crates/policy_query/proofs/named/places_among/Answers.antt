use Rattle.std.proofs.Common.{◌≡◌, ◌+◌, ◌++◌, ◌∷◌, [], List, ℕ, take, sym, ap, subst, ◌∙◌}
use Rattle.std.specs.Option.{option_copied}
use Rattle.std.proofs.lemmas.List.{take_all, take_more}
use Rattle.policy_table.specs.Tables.{Fields, rows}
use Rattle.policy_query.specs.Helps.Named.{ArePlaced, rule_of_names}
use Rattle.policy_query.proofs.FoundLemmas.{if_some, placed_more, placed_none}
use Rattle.policy_query.proofs.named.places_among.Goals as goal

pub loop-role-init : goal.loop-role-init
loop-role-init c = placed_none c.args.name.now (option_copied c.args.domain) (rows c.args.tables.now.policy c.args.table) c.new-places.result.items c.new-places.ensures.items

pub loop-role-preserved : goal.loop-role-preserved
loop-role-preserved c =
    let all : List Fields = rows c.args.tables.now.policy c.args.table in
    let longer : take (c.loop-role.role-index + 1) c.args.among.now ≡ take c.loop-role.role-index c.args.among.now ++ c.role-item.result ∷ [] =
    take_more c.args.among.now c.loop-role.role-index c.role-item.result c.loop-role-test.true ∙ ap (λ (n : List ℕ). take c.loop-role.role-index c.args.among.now ++ n ∷ []) (sym c.role-item.is) in
    let is : c.in-Some.rule ≡ rule_of_names c.args.name.now c.role-item.result (option_copied c.args.domain) =
    if_some _ c.in-Some.rule c.in-Some.is (λ (rule : Fields). rule ≡ rule_of_names c.args.name.now c.role-item.result (option_copied c.args.domain)) c.in_ok-rule.ensures in
    subst (λ (roles : List (List ℕ)). ArePlaced c.args.name.now (option_copied c.args.domain) roles all c.push_place.new.places.items) (sym longer)
    (placed_more c.args.name.now (option_copied c.args.domain) (take c.loop-role.role-index c.args.among.now) c.role-item.result c.in-Some.rule all c.loop-role.places.items c.push_place.new.places.items (c.kept.ensures.once c.args.table) is
    c.in_ok-push_place.ensures c.loop-role.invariant)

pub returns : goal.returns
returns c =
    subst (λ (roles : List (List ℕ)). ArePlaced c.args.name.now (option_copied c.args.domain) roles (rows c.args.tables.now.policy c.args.table) c.loop-role.places.items)
    (take_all c.loop-role.role-index c.args.among.now c.loop-role-test.false) c.loop-role.invariant
