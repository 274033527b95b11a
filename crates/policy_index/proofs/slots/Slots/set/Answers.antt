use Rattle.std.proofs.Common.{◌<◌, ◌∙◌, ap, arith, length, set, subst, sym, List, ℕ}
use Rattle.std.specs.Option.{option_copied_mut}
use Rattle.policy_index.proofs.ListLemmas.{changed_by, found_slots, no_slots, room_same, there_now, wrote_now}
use Rattle.policy_index.proofs.slots.Slots.set.Goals as goal

pub unreachable-requires : goal.unreachable-requires
unreachable-requires c =
    absurd (omega (
      arith,
      ap (λ (l : List ℕ). length l) (no_slots c.args.self.now c.args.hash (there_now c.self.inside.lists.entries c.args.self.now c.args.hash _ c.self.view_is (sym c.get_mut.ensures.value ∙ ap option_copied_mut c.in_default.is))),
      c.requires,
    ))

pub set-requires : goal.set-requires
set-requires c =
    subst (λ (l : List ℕ). c.args.at < length l) (found_slots c.args.self.now c.args.hash c.in-Some.list.now (there_now c.self.inside.lists.entries c.args.self.now c.args.hash _ c.self.view_is (sym c.get_mut.ensures.value ∙ ap option_copied_mut c.in-Some.is))) c.requires

pub returns-clause-slots : goal.returns-clause-slots
returns-clause-slots c =
    let is = sym c.get_mut.ensures.value ∙ ap option_copied_mut c.in-Some.is in
    λ other. changed_by (λ (l : List ℕ). set l c.args.at c.args.slot) c.args.self.now _ c.args.hash c.in-Some.list.now c.set.new.self other (there_now c.self.inside.lists.entries c.args.self.now c.args.hash _ c.self.view_is is)
    (wrote_now c.self.inside.lists.entries c.args.self.now _ c.args.hash c.in-Some.list.now c.set.new.self c.self.view_is is (c.get_mut.follows.holds c.set.new.self).0) c.set.ensures.slots

pub returns-clause-room : goal.returns-clause-room
returns-clause-room c =
    let is = sym c.get_mut.ensures.value ∙ ap option_copied_mut c.in-Some.is in
    λ other. room_same c.args.self.now _ c.args.hash c.in-Some.list.now c.set.new.self other (there_now c.self.inside.lists.entries c.args.self.now c.args.hash _ c.self.view_is is)
    (wrote_now c.self.inside.lists.entries c.args.self.now _ c.args.hash c.in-Some.list.now c.set.new.self c.self.view_is is (c.get_mut.follows.holds c.set.new.self).0) c.set.ensures.room
