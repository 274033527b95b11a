use Rattle.std.proofs.Common.{◌≡◌, ◌<◌, true, false, [], ◌∷◌, ◌++◌, get_or, sym, ap, ◌∙◌, subst, append_assoc}
use Rattle.perm_value.specs.Equality.{members_eq}
use Rattle.perm_value.specs.Seen.{datum, datum_of_view, items, members}
use Rattle.perm_value.proofs.MemberLemmas.{Named, listed, members_listed}
use Rattle.perm_value.proofs.WeightLemmas.{weight, items_weight, item_lighter, members_weight, member_lighter}
use Rattle.perm_value.proofs.CompareLemmas.{as_listed, other_name, other_datum, same_member, told, seen, ended}
use Rattle.perm_value.proofs.compare.+same.Goals as goal
use Rattle.perm_value.proofs.compare.+same.Goals.{are_same_members-then-ne-via-then-ne, are_same_members-then-ne-via-else-ne+then-not-is_same}

pub are_same_items-is_same-requires : goal.are_same_items-is_same-requires
are_same_items-is_same-requires t c =
    let inside : weight (datum (get_or c.args.values.now c.loop-value.value-index c.value-item.result)) < items_weight (items c.args.values.now) = item_lighter c.args.values.now c.loop-value.value-index c.value-item.result c.loop-value-test.true in
    let lighter : weight (datum_of_view c.view.result) < items_weight (items c.args.values.now) = rw c.view.ensures (subst (λ v. weight (datum v) < items_weight (items c.args.values.now)) (sym c.value-item.is) inside) in
    (subst (λ n. weight (datum_of_view c.view.result) < n) c.decreases lighter, tt)

pub are_same_members-returns-in_default : goal.are_same_members-returns-in_default
are_same_members-returns-in_default t c =
    let e : Named = (c.in-Some.name.now, c.in-Some.value.now) in
    sym (as_listed c.args.object.now.entries c.args.other.now.entries c.iter-name-items.ensures.ordered c.iter-others.ensures.ordered
    ∙ c.loop-name.invariant.2
    ∙ ap (λ es. members_eq (listed es) (listed c.loop-name.others)) c.in-Some.ensures.steps
    ∙ ap (λ fs. members_eq (listed (e ∷ c.next.new.self)) (listed fs)) c.in_default.ensures.steps.0)

pub are_same_members-is_same-requires : goal.are_same_members-is_same-requires
are_same_members-is_same-requires t c =
    let e : Named = (c.in-Some.name.now, c.in-Some.value.now) in
    let all : c.args.object.now.entries ≡ c.loop-name.invariant.0 ++ e ∷ c.next.new.self = c.loop-name.invariant.1 ∙ ap (λ es. c.loop-name.invariant.0 ++ es) c.in-Some.ensures.steps in
    let inside : weight (datum e.1) < members_weight (members c.args.object.now.entries) =
    rw (members_listed c.args.object.now.entries c.iter-name-items.ensures.ordered, all) (member_lighter c.loop-name.invariant.0 e c.next.new.self) in
    (subst (λ n. weight (datum_of_view c.view.result) < n) c.decreases (rw c.view.ensures inside), tt)

pub are_same_members-returns-then-ne : goal.are_same_members-returns-then-ne
are_same_members-returns-then-ne t c =
    let e : Named = (c.in-Some.name.now, c.in-Some.value.now) in
    let f : Named = (c.in-Some-next.other_name.now, c.in-Some-next.other_value.now) in
    let heads = as_listed c.args.object.now.entries c.args.other.now.entries c.iter-name-items.ensures.ordered c.iter-others.ensures.ordered
    ∙ c.loop-name.invariant.2
    ∙ ap (λ es. members_eq (listed es) (listed c.loop-name.others)) c.in-Some.ensures.steps
    ∙ ap (λ fs. members_eq (listed (e ∷ c.next.new.self)) (listed fs)) c.in-Some-next.ensures.steps in
    elim c.then-ne.branch [
      | are_same_members-then-ne-via-then-ne w ↦ sym (heads ∙ other_name e f c.next.new.self c.next-in-loop-name.new.self (told _ _ _ _ _ true c.as_str.ensures.value c.as_str-in-loop-name.ensures.value c.ne.ensures w.if-ne.true))
      | are_same_members-then-ne-via-else-ne+then-not-is_same w ↦ sym (heads ∙ other_datum e f c.next.new.self c.next-in-loop-name.new.self (seen _ _ _ _ _ false w.view.ensures w.view-else-ne.ensures w.is_same.ensures w.if-not-is_same.true))
    ]

pub are_same_members-loop-name-preserved : goal.are_same_members-loop-name-preserved
are_same_members-loop-name-preserved t c =
    let e : Named = (c.in-Some.name.now, c.in-Some.value.now) in
    let f : Named = (c.in-Some-next.other_name.now, c.in-Some-next.other_value.now) in
    let done = c.loop-name.invariant.0 in
    let all : c.args.object.now.entries ≡ done ++ e ∷ c.next.new.self = c.loop-name.invariant.1 ∙ ap (λ es. done ++ es) c.in-Some.ensures.steps in (
      done ++ e ∷ [],
      all ∙ sym (append_assoc done (e ∷ []) c.next.new.self),
      c.loop-name.invariant.2
          ∙ ap (λ es. members_eq (listed es) (listed c.loop-name.others)) c.in-Some.ensures.steps
          ∙ ap (λ fs. members_eq (listed (e ∷ c.next.new.self)) (listed fs)) c.in-Some-next.ensures.steps
          ∙ same_member e f c.next.new.self c.next-in-loop-name.new.self
          (told _ _ _ _ _ false c.as_str.ensures.value c.as_str-in-loop-name.ensures.value c.ne.ensures c.if-ne.false)
          (seen _ _ _ _ _ true c.view.ensures c.view-else-ne.ensures c.is_same.ensures c.if-not-is_same.false),
    )

pub are_same_members-returns : goal.are_same_members-returns
are_same_members-returns t c =
    let left = as_listed c.args.object.now.entries c.args.other.now.entries c.iter-name-items.ensures.ordered c.iter-others.ensures.ordered
    ∙ c.loop-name.invariant.2
    ∙ ap (λ es. members_eq (listed es) (listed c.loop-name.others)) c.in-None.ensures.steps.0 in
    sym (left ∙ ended c.next-2.result c.loop-name.others c.next-2.new.self c.is_none.result c.next-2.ensures.steps c.is_none.ensures)
