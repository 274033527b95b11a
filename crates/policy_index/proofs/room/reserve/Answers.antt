use Rattle.std.proofs.Common.{◌≡◌, ◌+◌, ℕ, List, length, take, refl, ap, subst, sym, ◌∙◌, true, arith}
use Rattle.policy_table.specs.Changes.{flat}
use Rattle.policy_table.specs.declared.change.Change.{Change}
use Rattle.policy_index.specs.Indexed.{all_fit, puts}
use Rattle.policy_index.specs.Lists.{Lists, slots_at}
use Rattle.policy_index.proofs.ReserveLemmas.{fits_edit, puts_edit}
use Rattle.policy_index.proofs.room.reserve.Goals as goal

pub loop-edit-init : goal.loop-edit-init
loop-edit-init c = record {
  slots = λ hash. refl;
  more = λ hash. omega arith;
  counted = λ hash. ap (λ (l : Lists). length (slots_at l hash)) c.new-counts.ensures;
  room = λ hash. omega (arith, ap (λ (l : Lists). length (slots_at l hash)) c.new-counts.ensures);
}

pub reserve_edit-requires : goal.reserve_edit-requires
reserve_edit-requires c =
    subst (λ (l : List Change). all_fit c.args.key.now l ≡ true) (sym c.as_slice.ensures)
    (fits_edit c.args.key.now c.args.edits.now c.loop-edit.edit-index c.edit-item.result c.requires c.loop-edit-test.true (sym c.edit-item.is))

pub loop-edit-preserved : goal.loop-edit-preserved
loop-edit-preserved c = record {
  slots = λ hash. c.reserve_edit.ensures.slots hash ∙ c.loop-edit.invariant.slots hash;
  more = λ hash. omega (arith, c.reserve_edit.ensures.more hash, c.loop-edit.invariant.more hash);
  counted =
      λ hash.
      c.in_ok-reserve_edit.ensures.counted hash
      ∙ ap (λ (n : ℕ). n + puts c.args.key.now hash c.as_slice.result.now) (c.loop-edit.invariant.counted hash)
      ∙ ap (λ (l : List Change). puts c.args.key.now hash (flat (take c.loop-edit.edit-index c.args.edits.now)) + puts c.args.key.now hash l) c.as_slice.ensures
      ∙ sym (puts_edit c.args.key.now hash c.args.edits.now c.loop-edit.edit-index c.edit-item.result c.loop-edit-test.true (sym c.edit-item.is));
  room = λ hash. c.in_ok-reserve_edit.ensures.room hash (c.loop-edit.invariant.room hash);
}
