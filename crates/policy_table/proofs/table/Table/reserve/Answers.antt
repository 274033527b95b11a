use Rattle.std.proofs.Common.{◌≤◌, ◌+◌, ◌-◌, length, arith, ap, rules, subst}
use Rattle.std.specs.Prelude.{min}
use Rattle.indexmap.specs.IndexSet.{spare}
use Rattle.policy_table.specs.Helps.Rows.{Rows}
use Rattle.policy_table.proofs.EditLemmas.{less_of_both, room_for, sum_fits}
use Rattle.policy_table.proofs.table.Table.reserve.Goals as goal

pub invariant_of-self : goal.invariant_of-self
invariant_of-self c = rw (c.reserve.ensures.keys) c.self.invariant

pub returns-clause-room : goal.returns-clause-room
returns-clause-room c =
    let sum : length c.self.inside.by_slot.keys + c.args.count ≤ c.in-Ok.slots = sum_fits _ c.args.count c.saturating_add-wanted.result c.in-Ok.slots (search rules) (search rules) (search (rules, arith)) in
    room_for c.args.count _ c.reserve-2.new.self.slots c.in-Ok.slots _ c.in_ok-reserve.ensures.ok c.in_ok-reserve-2.ensures.room
    (omega (arith, sum, ap (λ ids. length ids) c.reserve-2.ensures.ids, c.self.invariant.order.count))

pub returns-clause-more : goal.returns-clause-more
returns-clause-more c =
    let few : c.self.inside.order.slots - length c.self.inside.order.ids ≤ c.reserve-2.new.self.slots - length c.reserve-2.new.self.ids
    = omega (arith, c.reserve-2.ensures.more, ap (λ ids. length ids) c.reserve-2.ensures.ids) in
    subst (λ (t : Rows). t.spare ≤ min (spare c.reserve.new.self) (c.reserve-2.new.self.slots - length c.reserve-2.new.self.ids)) c.self.view_is (less_of_both _ _ _ _ c.reserve.ensures.room.0 few)
