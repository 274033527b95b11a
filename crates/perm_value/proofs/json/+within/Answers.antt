use Rattle.std.proofs.Common.{◌≡◌, nat_le, true, false, [], ◌∷◌, ◌++◌, get_or, sym, ap, ◌∙◌, subst, append_assoc}
use Rattle.std.specs.List.{list_all}
use Rattle.std.proofs.lemmas.List.{append-nil, take_all}
use Rattle.serde_json.specs.Data.{items_depth}
use Rattle.serde_json.specs.View.{items_view}
use Rattle.serde_json.proofs.Views.{Entry}
use Rattle.perm_value.proofs.WithinLemmas.{no_deeper, items_within, members_within, one_item_too_deep, one_member_too_deep, all_with_last}
use Rattle.perm_value.proofs.json.+within.Goals as goal

pub are_items_within-returns-then-not-is_within : goal.are_items_within-returns-then-not-is_within
are_items_within-returns-then-not-is_within t c =
    let found = c.deref-item-items.result.now in
    let deep : no_deeper c.args.levels (get_or found c.loop-item.item-index c.item-item.result) ≡ false =
    ap (no_deeper c.args.levels) (sym c.item-item.is) ∙ sym c.is_within.ensures ∙ c.if-not-is_within.true in
    subst (λ js. false ≡ nat_le (items_depth (items_view js)) c.args.levels) c.deref-item-items.ensures.value
    (sym (one_item_too_deep c.args.levels found c.loop-item.item-index c.item-item.result c.loop-item-test.true deep))

pub are_items_within-returns : goal.are_items_within-returns
are_items_within-returns t c =
    let found = c.deref-item-items.result.now in
    let all : list_all (no_deeper c.args.levels) found ≡ true =
    ap (list_all (no_deeper c.args.levels)) (sym (take_all c.loop-item.item-index found c.loop-item-test.false)) ∙ c.loop-item.invariant in
    subst (λ js. true ≡ nat_le (items_depth (items_view js)) c.args.levels) c.deref-item-items.ensures.value
    (sym (items_within c.args.levels found ∙ all))

pub are_members_within-returns-then-not-is_within : goal.are_members_within-returns-then-not-is_within
are_members_within-returns-then-not-is_within t c =
    let done = c.loop-member.invariant.0 in
    let e : Entry = (c.in-Some.field-0-0.now, c.in-Some.member.now) in
    let left = c.next.new.self in
    let all : c.args.members.now.entries ≡ done ++ e ∷ left = c.loop-member.invariant.1 ∙ ap (λ es. done ++ es) c.in-Some.ensures.steps in
    rw all (sym (one_member_too_deep c.args.levels done e left (sym c.is_within.ensures ∙ c.if-not-is_within.true)))

pub are_members_within-loop-member-preserved : goal.are_members_within-loop-member-preserved
are_members_within-loop-member-preserved t c =
    let done = c.loop-member.invariant.0 in
    let e : Entry = (c.in-Some.field-0-0.now, c.in-Some.member.now) in
    let left = c.next.new.self in
    let all : c.args.members.now.entries ≡ done ++ e ∷ left = c.loop-member.invariant.1 ∙ ap (λ es. done ++ es) c.in-Some.ensures.steps in (
      done ++ e ∷ [],
      all ∙ sym (append_assoc done (e ∷ []) left),
      all_with_last c.args.levels done e c.loop-member.invariant.2 (sym c.is_within.ensures ∙ c.if-not-is_within.false),
    )

pub are_members_within-returns : goal.are_members_within-returns
are_members_within-returns t c =
    let done = c.loop-member.invariant.0 in
    let all : c.args.members.now.entries ≡ done = c.loop-member.invariant.1 ∙ ap (λ es. done ++ es) c.in-None.ensures.steps.0 ∙ append-nil done in
    sym (members_within c.args.levels c.args.members.now.entries ∙ rw all c.loop-member.invariant.2)
