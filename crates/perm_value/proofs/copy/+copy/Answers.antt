use Rattle.std.proofs.Common.{◌≡◌, ◌+◌, [], ◌∷◌, ◌++◌, map, take, sym, ap, ◌∙◌, subst}
use Rattle.std.proofs.lemmas.List.{take_all, take_more}
use Rattle.perm_value.specs.Seen.{datum}
use Rattle.perm_value.proofs.CopyLemmas.{IsCopyOf, copied_values, copied_members}
use Rattle.perm_value.proofs.MadeLemmas.{Made, all_done, made_end, members_step}
use Rattle.perm_value.proofs.copy.+copy.Goals as goal

pub copy_values-loop-value-preserved : goal.copy_values-loop-value-preserved
copy_values-loop-value-preserved t c =
    let found = c.deref-value-items.result.now in
    let longer : Made IsCopyOf (take c.loop-value.value-index found ++ c.value-item.result ∷ []) (c.loop-value.copies.items ++ c.in_ok-copy_value.field-0 ∷ []) = made_end IsCopyOf _ _ _ _ c.loop-value.invariant c.in_ok-copy_value.ensures in
    let shown : take (c.loop-value.value-index + 1) found ≡ take c.loop-value.value-index found ++ c.value-item.result ∷ [] =
    take_more found c.loop-value.value-index c.value-item.result c.loop-value-test.true ∙ ap (λ v. take c.loop-value.value-index found ++ v ∷ []) (sym c.value-item.is) in
    subst (λ vs. Made IsCopyOf vs c.push.new.self.items) (sym shown)
    (subst (Made IsCopyOf (take c.loop-value.value-index found ++ c.value-item.result ∷ [])) (sym c.in_ok-push.ensures.items) longer)

pub copy_values-returns : goal.copy_values-returns
copy_values-returns t c =
    let found = c.deref-value-items.result.now in
    let all : Made IsCopyOf found c.loop-value.copies.items = subst (λ vs. Made IsCopyOf vs c.loop-value.copies.items) (take_all c.loop-value.value-index found c.loop-value-test.false) c.loop-value.invariant in
    subst (λ vs. map datum c.loop-value.copies.items ≡ map datum vs) c.deref-value-items.ensures.value (copied_values found c.loop-value.copies.items all)

pub copy_members-loop-name-preserved : goal.copy_members-loop-name-preserved
copy_members-loop-name-preserved t c =
    members_step IsCopyOf c.args.object.now.entries c.loop-name.invariant.0 _ c.next.new.self (c.in-Some.name.now, c.in-Some.member.now) c.loop-name.copies.entries _ c.in_ok-key.key c.in_ok-value.value
    c.loop-name.invariant.1 c.in-Some.ensures.steps c.iter-name-items.ensures.ordered c.loop-name.invariant.2 (c.in_ok-key.ensures.ok ∙ c.as_str.ensures.value) c.in_ok-value.ensures c.in_ok-insert.ensures.entries

pub copy_members-returns : goal.copy_members-returns
copy_members-returns t c =
    let done = all_done c.args.object.now.entries c.loop-name.invariant.0 _ c.loop-name.invariant.1 c.in-None.ensures.steps.0 c.iter-name-items.ensures.ordered in
    rw done.0 (copied_members c.loop-name.invariant.0 c.loop-name.copies.entries c.loop-name.invariant.2 done.1)
