use Rattle.std.proofs.Common.{◌≡◌, ◌+◌, [], ◌∷◌, ◌++◌, get_or, take, Some, None, option_map, sym, ap, ◌∙◌, subst}
use Rattle.std.proofs.lemmas.List.{take_all, take_more}
use Rattle.serde_json.specs.View.{view, items_view}
use Rattle.serde_json.proofs.Views.{Entry}
use Rattle.perm_value.specs.Json.{datum_of, items_of_json}
use Rattle.perm_value.specs.Seen.{datum, items}
use Rattle.perm_value.proofs.MadeLemmas.{Made, all_done, made_end, members_step}
use Rattle.perm_value.proofs.ValueLemmas.{IsOfJson, made_items, one_item_not_whole, made_members, one_member_not_whole}
use Rattle.perm_value.proofs.json.+values.Goals as goal

pub values_of-returns-in_default : goal.values_of-returns-in_default
values_of-returns-in_default t c =
    let found = c.deref-item-items.result.now in
    let lacks : datum_of (view (get_or found c.loop-item.item-index c.item-item.result)) ≡ None =
    ap (λ j. datum_of (view j)) (sym c.item-item.is) ∙ c.in_ok-value.ensures ∙ ap (option_map datum) c.in_default.is in
    subst (λ js. items_of_json (items_view js) ≡ None) c.deref-item-items.ensures.value
    (one_item_not_whole found c.loop-item.item-index c.item-item.result c.loop-item-test.true lacks)

pub values_of-loop-item-preserved : goal.values_of-loop-item-preserved
values_of-loop-item-preserved t c =
    let found = c.deref-item-items.result.now in
    let made : datum_of (view c.item-item.result) ≡ Some (datum c.in-Some.value) = c.in_ok-value.ensures ∙ ap (option_map datum) c.in-Some.is in
    let longer : Made IsOfJson (take c.loop-item.item-index found ++ c.item-item.result ∷ []) (c.loop-item.values.items ++ c.in-Some.value ∷ []) = made_end IsOfJson _ _ _ _ c.loop-item.invariant made in
    let shown : take (c.loop-item.item-index + 1) found ≡ take c.loop-item.item-index found ++ c.item-item.result ∷ [] =
    take_more found c.loop-item.item-index c.item-item.result c.loop-item-test.true ∙ ap (λ j. take c.loop-item.item-index found ++ j ∷ []) (sym c.item-item.is) in
    subst (λ js. Made IsOfJson js c.push.new.self.items) (sym shown) (subst (λ vs. Made IsOfJson (take c.loop-item.item-index found ++ c.item-item.result ∷ []) vs) (sym c.in_ok-push.ensures.items) longer)

pub values_of-returns : goal.values_of-returns
values_of-returns t c =
    let found = c.deref-item-items.result.now in
    let all : Made IsOfJson found c.loop-item.values.items = subst (λ js. Made IsOfJson js c.loop-item.values.items) (take_all c.loop-item.item-index found c.loop-item-test.false) c.loop-item.invariant in
    subst (λ js. items_of_json (items_view js) ≡ Some (items c.loop-item.values.items)) c.deref-item-items.ensures.value (made_items found c.loop-item.values.items all)

pub members_of-returns-in_default : goal.members_of-returns-in_default
members_of-returns-in_default t c =
    let done = c.loop-key.invariant.0 in
    let e : Entry = (c.in-Some.key.now, c.in-Some.member.now) in
    let left = c.next.new.self in
    let all : c.args.object.now.entries ≡ done ++ e ∷ left = c.loop-key.invariant.1 ∙ ap (λ es. done ++ es) c.in-Some.ensures.steps in
    rw all (one_member_not_whole done e left (c.in_ok-value.ensures ∙ ap (option_map datum) c.in_default.is))

pub members_of-loop-key-preserved : goal.members_of-loop-key-preserved
members_of-loop-key-preserved t c =
    members_step IsOfJson c.args.object.now.entries c.loop-key.invariant.0 _ c.next.new.self (c.in-Some.key.now, c.in-Some.member.now) c.loop-key.copies.entries _ c.in_ok-name.name c.in-Some-2.value
    c.loop-key.invariant.1 c.in-Some.ensures.steps c.iter-key-items.ensures.ordered c.loop-key.invariant.2 (c.in_ok-name.ensures.ok ∙ c.as_str.ensures.value) (c.in_ok-value.ensures ∙ ap (option_map datum) c.in-Some-2.is) c.in_ok-insert.ensures.entries

pub members_of-returns : goal.members_of-returns
members_of-returns t c =
    let done = all_done c.args.object.now.entries c.loop-key.invariant.0 _ c.loop-key.invariant.1 c.in-None.ensures.steps.0 c.iter-key-items.ensures.ordered in
    rw done.0 (made_members c.loop-key.invariant.0 c.loop-key.copies.entries c.loop-key.invariant.2 done.1)
