use Rattle.std.proofs.Common.{ap, ◌∙◌, sym, ℕ, ◌≤◌, OnOk, subst, arith}
use Rattle.std.specs.Prelude.{nat_eq}
use Rattle.std.specs.Option.{option_copied_mut}
use Rattle.indexmap.specs.IndexMap.{insert_entry}
use Rattle.policy_index.proofs.slots.Slots.reserve.Goals as goal
use Rattle.policy_index.proofs.ListLemmas.{found_room, found_slots, new_now, no_room, no_slots, room_here, room_more, slots_same, there_now, wrote_now}

pub returns-in-Some-clause-slots : goal.returns-in-Some-clause-slots
returns-in-Some-clause-slots c =
    let is = sym c.get_mut.ensures.value ∙ ap option_copied_mut c.in-Some.is in
    λ other. slots_same c.args.self.now _ c.args.hash c.reserve.new.self other
    (wrote_now c.self.inside.lists.entries c.args.self.now _ c.args.hash c.in-Some.list.now c.reserve.new.self c.self.view_is is (c.get_mut.follows.holds c.reserve.new.self).0) (c.reserve.ensures.slots ∙ sym (found_slots c.args.self.now c.args.hash c.in-Some.list.now (there_now c.self.inside.lists.entries c.args.self.now c.args.hash _ c.self.view_is is)))

pub returns-in-Some-clause-room : goal.returns-in-Some-clause-room
returns-in-Some-clause-room c =
    let is = sym c.get_mut.ensures.value ∙ ap option_copied_mut c.in-Some.is in
    subst (λ (n : ℕ). OnOk c.reserve.result (c.args.count ≤ n)) (sym (room_here c.args.self.now _ c.args.hash c.reserve.new.self
    (wrote_now c.self.inside.lists.entries c.args.self.now _ c.args.hash c.in-Some.list.now c.reserve.new.self c.self.view_is is (c.get_mut.follows.holds c.reserve.new.self).0))) c.reserve.ensures.room

pub returns-in-Some-clause-more : goal.returns-in-Some-clause-more
returns-in-Some-clause-more c =
    let is = sym c.get_mut.ensures.value ∙ ap option_copied_mut c.in-Some.is in
    λ other. room_more c.args.self.now _ c.args.hash c.reserve.new.self other
    (wrote_now c.self.inside.lists.entries c.args.self.now _ c.args.hash c.in-Some.list.now c.reserve.new.self c.self.view_is is (c.get_mut.follows.holds c.reserve.new.self).0)
    (subst (λ (n : ℕ). n ≤ c.reserve.new.self.room) (sym (found_room c.args.self.now c.args.hash c.in-Some.list.now (there_now c.self.inside.lists.entries c.args.self.now c.args.hash _ c.self.view_is is))) c.reserve.ensures.more)

pub returns-clause-slots : goal.returns-clause-slots
returns-clause-slots c =
    let is = sym c.get_mut.ensures.value ∙ ap option_copied_mut c.in_default.is in
    λ other. slots_same c.args.self.now _ c.args.hash c.reserve-2.new.self other
    (new_now c.self.inside.lists.entries c.args.self.now _ c.args.hash c.reserve-2.new.self c.self.view_is is (c.in_ok-_none.ensures.entries ∙ ap (λ m. insert_entry nat_eq m.entries c.args.hash c.reserve-2.new.self) c.get_mut.follows.holds-at-none))
    (c.reserve-2.ensures.slots ∙ c.new-list.ensures ∙ sym (no_slots c.args.self.now c.args.hash (there_now c.self.inside.lists.entries c.args.self.now c.args.hash _ c.self.view_is is)))

pub returns-clause-room : goal.returns-clause-room
returns-clause-room c =
    let is = sym c.get_mut.ensures.value ∙ ap option_copied_mut c.in_default.is in
    subst (λ (n : ℕ). c.args.count ≤ n) (sym (room_here c.args.self.now _ c.args.hash c.reserve-2.new.self
    (new_now c.self.inside.lists.entries c.args.self.now _ c.args.hash c.reserve-2.new.self c.self.view_is is (c.in_ok-_none.ensures.entries ∙ ap (λ m. insert_entry nat_eq m.entries c.args.hash c.reserve-2.new.self) c.get_mut.follows.holds-at-none)))) c.in_ok-reserve.ensures.room

pub returns-clause-more : goal.returns-clause-more
returns-clause-more c =
    let is = sym c.get_mut.ensures.value ∙ ap option_copied_mut c.in_default.is in
    λ other. room_more c.args.self.now _ c.args.hash c.reserve-2.new.self other
    (new_now c.self.inside.lists.entries c.args.self.now _ c.args.hash c.reserve-2.new.self c.self.view_is is (c.in_ok-_none.ensures.entries ∙ ap (λ m. insert_entry nat_eq m.entries c.args.hash c.reserve-2.new.self) c.get_mut.follows.holds-at-none))
    (omega (arith, no_room c.args.self.now c.args.hash (there_now c.self.inside.lists.entries c.args.self.now c.args.hash _ c.self.view_is is)))
