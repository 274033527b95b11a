use Rattle.std.proofs.Common.{◌≡◌, ◌∙◌, List, ap, arith, length, refl, slice_set, subst, sym, true}
use Rattle.policy_index.specs.Hashes.{mark_of}
use Rattle.policy_index.specs.Indexed.{Indexed}
use Rattle.policy_index.specs.Keys.{KeyParts, is_below}
use Rattle.policy_index.specs.declared.mark.Mark.{Mark}
use Rattle.policy_index.proofs.CommitLemmas.{index_set, kept_copied}
use Rattle.policy_index.proofs.index.Index.put_row.Goals as goal

pub mark_of-mark-requires : goal.mark_of-mark-requires
mark_of-mark-requires c = sym c.has_columns.ensures ∙ c.if-not-has_columns.false

pub invariant_of-self-2 : goal.invariant_of-self-2
invariant_of-self-2 c =
    kept_copied c.self.inside.marks.items c.self.inside.marks.items c.self.inside.slots c.reserve-2.new.self c.self.inside.fronts c.self.inside.fronts c.self.inside.places.items c.self.inside.places.items refl c.reserve-2.ensures.slots refl refl c.self.invariant

pub set-requires-clause-slot : goal.set-requires-clause-slot
set-requires-clause-slot c = omega (arith, c.requires.slot, ap (λ (i : Indexed). length i.marks) c.self.view_is)

pub set-requires-clause-room : goal.set-requires-clause-room
set-requires-clause-room c = omega (arith, c.in-Ok-reserve.ensures.room)

pub returns-clause-rows : goal.returns-clause-rows
returns-clause-rows c = λ ok by_slot gone is once found.
    let now = c.args.self.now in
    c.forget_emptied.ensures.stays _
    (index_set now c.set.new.self by_slot is (c.set.ensures.key ∙ ap (λ (i : Indexed). i.key) c.self.view_is) gone c.args.rule.now c.args.slot once found
    (subst (λ (k : KeyParts). is_below (length c.args.rule.now) k ≡ true) (ap (λ (i : Indexed). i.key) c.self.view_is) (sym c.has_columns.ensures ∙ c.if-not-has_columns.false))
    (c.set.ensures.marks
    ∙ ap (λ (l : List Mark). slice_set l c.args.slot c.mark_of-mark.result) (ap (λ (i : Indexed). i.marks) c.self.view_is)
    ∙ ap (slice_set now.marks c.args.slot) (c.mark_of-mark.ensures ∙ ap (λ (i : Indexed). mark_of i.key c.args.rule.now) c.self.view_is)))
