use Rattle.std.proofs.Common.{◌≡◌, ◌≤◌, ◌<◌, ◌-◌, ◌+◌, [], ◌∷◌, ◌++◌, length, arith, ap, sym, subst, ◌∙◌}
use Rattle.std.specs.Prelude.{min}
use Rattle.std.proofs.lemmas.List.{length_push}
use Rattle.indexmap.specs.IndexSet.{insert_key, spare}
use Rattle.policy_table.specs.Changes.{inserted}
use Rattle.policy_table.specs.Helps.Orders.{IsTable, in_order}
use Rattle.policy_table.specs.Helps.Rows.{RiseWhere, Rows}
use Rattle.policy_table.specs.Tables.{same, stands}
use Rattle.policy_table.proofs.EditLemmas.{less_than_both, next_slot_new, pushed, spare_pushed}
use Rattle.policy_table.proofs.SlotLemmas.{below}
use Rattle.policy_table.proofs.table.Table.push.Goals as goal
use Rattle.policy_table.proofs.table.Table.push.Goals.{After-len-slot, After-unwrap-new}

-- there is room for a rule and for a slot
room : (c : After-len-slot) → (0 < spare c.self.inside.by_slot) × (0 < c.self.inside.order.slots - length c.self.inside.order.ids)
room c = less_than_both 0 _ _ (subst (λ (t : Rows). 0 < t.spare) (sym c.self.view_is) c.requires.room)

pub put_slot-requires-clause-below : goal.put_slot-requires-clause-below
put_slot-requires-clause-below c = rw c.as_slice.ensures.keys (below c.self.inside.by_slot.keys c.self.inside.order.ids c.self.invariant)

pub put_slot-requires-clause-rising : goal.put_slot-requires-clause-rising
put_slot-requires-clause-rising c = rw c.as_slice.ensures.keys (subst (λ (t : Rows). RiseWhere c.args.ranked t.rules) (sym c.self.view_is) c.requires.rising)

pub put_slot-requires-clause-slot : goal.put_slot-requires-clause-slot
put_slot-requires-clause-slot c = omega (arith, (room (goal.at.put_slot-requires-clause-slot c).After-len-slot).1, c.len-slot.ensures.value)

pub put_slot-requires-clause-new : goal.put_slot-requires-clause-new
put_slot-requires-clause-new c = next_slot_new c.self.inside.by_slot.keys c.self.inside.order.ids c.self.invariant c.len-slot.result (c.len-slot.ensures.value ∙ c.self.invariant.order.count)

pub put_slot-requires-clause-room : goal.put_slot-requires-clause-room
put_slot-requires-clause-room c = omega (arith, (room (goal.at.put_slot-requires-clause-room c).After-len-slot).1)

pub unwrap-new-requires : goal.unwrap-new-requires
unwrap-new-requires c = c.insert.ensures.succeeds (room (goal.at.unwrap-new-requires c).After-len-slot).0

-- the table with the rule
made : (c : After-unwrap-new) → IsTable c.insert.new.self.keys c.put_slot.new.order.ids
    × (in_order c.insert.new.self.keys c.put_slot.new.order.ids ≡ inserted c.args.ranked c.args.rule (in_order c.self.inside.by_slot.keys c.self.inside.order.ids)) × (c.insert.new.self.keys ≡ c.self.inside.by_slot.keys ++ c.args.rule ∷ [])
made c =
    let keys_are : c.insert.new.self.keys ≡ insert_key same c.self.inside.by_slot.keys c.args.rule = rw c.unwrap-new.ensures at c.insert.ensures.keys in
    pushed c.self.inside.by_slot.keys c.self.inside.order.ids c.self.invariant c.as_slice.result.now c.insert.new.self.keys c.put_slot.new.order.ids c.len-slot.result c.args.ranked c.args.rule c.as_slice.ensures.keys
    (c.len-slot.ensures.value ∙ c.self.invariant.order.count) (ap (λ (t : Rows). stands c.args.rule t.rules) c.self.view_is ∙ c.requires.absent) keys_are c.insert.ensures.unique c.put_slot.ensures.put

pub invariant_of-self : goal.invariant_of-self
invariant_of-self c = (made (goal.at.invariant_of-self c).After-unwrap-new).0

pub returns-clause-rules : goal.returns-clause-rules
returns-clause-rules c = (made (goal.at.returns-clause-rules c).After-unwrap-new).1 ∙ ap (λ (t : Rows). inserted c.args.ranked c.args.rule t.rules) c.self.view_is

pub returns-clause-slots : goal.returns-clause-slots
returns-clause-slots c = (made (goal.at.returns-clause-slots c).After-unwrap-new).2 ∙ ap (λ (t : Rows). t.slots ++ c.args.rule ∷ []) c.self.view_is

pub returns-clause-spare : goal.returns-clause-spare
returns-clause-spare c =
    let all = made (goal.at.returns-clause-spare c).After-unwrap-new in
    subst (λ (t : Rows). t.spare ≤ min (spare c.insert.new.self) (c.put_slot.new.order.slots - length c.put_slot.new.order.ids) + 1) c.self.view_is
    (spare_pushed (spare c.self.inside.by_slot) (spare c.insert.new.self) c.self.inside.order.slots c.put_slot.new.order.slots (length c.self.inside.order.ids) (length c.put_slot.new.order.ids) c.insert.ensures.spare c.put_slot.ensures.slots
    (omega (arith, all.0.order.count, ap length all.2, length_push c.self.inside.by_slot.keys c.args.rule, c.self.invariant.order.count)))
