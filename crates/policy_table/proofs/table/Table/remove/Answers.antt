use Rattle.std.proofs.Common.{◌≡◌, ◌≤◌, ◌-◌, ◌==◌, Some, length, filter, position, arith, ap, sym, subst, ◌∙◌}
use Rattle.std.specs.Prelude.{if◌then◌else◌, min, not}
use Rattle.indexmap.specs.IndexMap.{swap_remove_by}
use Rattle.indexmap.specs.IndexSet.{spare}
use Rattle.row_order.specs.Orders.{Order, renamed}
use Rattle.std.proofs.lemmas.List.{length-map}
use Rattle.policy_table.specs.Changes.{without}
use Rattle.policy_table.specs.Helps.Orders.{IsTable, in_order}
use Rattle.policy_table.specs.Helps.Rows.{Rows}
use Rattle.policy_table.specs.Tables.{same, stands}
use Rattle.policy_table.proofs.EditLemmas.{fewer_ids, freed_slot, must_have_slot, slot_inside, spare_taken, taken}
use Rattle.policy_table.proofs.table.Table.remove.Goals as goal
use Rattle.policy_table.proofs.table.Table.remove.Goals.{In-Some, After-swap_remove-found}

pub unreachable-requires : goal.unreachable-requires
unreachable-requires c =
    must_have_slot c.self.inside.by_slot.keys c.self.inside.order.ids c.self.invariant c.args.rule.now (ap (λ (t : Rows). stands c.args.rule.now t.rules) c.self.view_is ∙ c.requires)
    (ap (λ (t : Rows). position (same c.args.rule.now) t.slots) c.self.view_is ∙ sym c.slot_of.ensures ∙ c.in_default.is)

-- the rule has the slot
found : (c : In-Some) → position (same c.args.rule.now) c.self.inside.by_slot.keys ≡ Some c.in-Some.slot
found c = ap (λ (t : Rows). position (same c.args.rule.now) t.slots) c.self.view_is ∙ sym c.slot_of.ensures ∙ c.in-Some.is

pub overflow_sub-last : goal.overflow_sub-last
overflow_sub-last c =
    omega (arith, slot_inside c.self.inside.by_slot.keys c.self.inside.order.ids c.self.invariant c.args.rule.now c.in-Some.slot (found (goal.at.overflow_sub-last c).In-Some), c.len-last.ensures.value, c.self.invariant.order.count)

pub rename-requires-clause-slot : goal.rename-requires-clause-slot
rename-requires-clause-slot c =
    omega (
      arith,
      slot_inside c.self.inside.by_slot.keys c.self.inside.order.ids c.self.invariant c.args.rule.now c.in-Some.slot (found (goal.at.rename-requires-clause-slot c).In-Some),
      c.len-last.ensures.value,
      c.len-last.ensures.few,
      c.self.invariant.order.count,
      ap (λ (o : Order). o.slots) c.remove.ensures,
    )

pub rename-requires-clause-new : goal.rename-requires-clause-new
rename-requires-clause-new c =
    ap (λ (o : Order). position (λ x. x == c.in-Some.slot) o.ids) c.remove.ensures ∙ freed_slot c.self.inside.by_slot.keys c.self.inside.order.ids c.self.invariant c.in-Some.slot

-- the slots that are left
named : (c : After-swap_remove-found) → c.rename.new.self.ids ≡ renamed (c.len-last.result - 1) c.in-Some.slot (filter (λ x. not (x == c.in-Some.slot)) c.self.inside.order.ids)
named c = ap (λ (o : Order). o.ids) c.rename.ensures ∙ ap (λ (o : Order). renamed (c.len-last.result - 1) c.in-Some.slot o.ids) c.remove.ensures

-- the table without the rule
made : (c : After-swap_remove-found) → IsTable c.swap_remove-found.new.self.keys c.rename.new.self.ids
    × (in_order c.swap_remove-found.new.self.keys c.rename.new.self.ids ≡ without c.args.rule.now (in_order c.self.inside.by_slot.keys c.self.inside.order.ids))
made c =
    taken c.self.inside.by_slot.keys c.self.inside.order.ids c.self.invariant c.args.rule.now c.in-Some.slot (ap (λ (t : Rows). position (same c.args.rule.now) t.slots) c.self.view_is ∙ sym c.slot_of.ensures ∙ c.in-Some.is) c.swap_remove-found.new.self.keys c.rename.new.self.ids (c.len-last.result - 1)
    (ap (λ n. n - 1) (c.len-last.ensures.value ∙ c.self.invariant.order.count)) c.swap_remove-found.ensures.keys c.swap_remove-found.ensures.unique (named c)

pub invariant_of-self : goal.invariant_of-self
invariant_of-self c = (made (goal.at.invariant_of-self c).After-swap_remove-found).0

pub returns-clause-rules : goal.returns-clause-rules
returns-clause-rules c = (made (goal.at.returns-clause-rules c).After-swap_remove-found).1 ∙ ap (λ (t : Rows). without c.args.rule.now t.rules) c.self.view_is

pub returns-clause-slots : goal.returns-clause-slots
returns-clause-slots c = c.swap_remove-found.ensures.keys ∙ ap (λ (t : Rows). swap_remove_by (same c.args.rule.now) t.slots) c.self.view_is

pub returns-clause-spare : goal.returns-clause-spare
returns-clause-spare c =
    let keys = c.self.inside.by_slot.keys in
    let ids = c.self.inside.order.ids in
    let slot = c.in-Some.slot in
    let is = found (goal.at.returns-clause-spare c).In-Some in
    let within = slot_inside keys ids c.self.invariant c.args.rule.now slot is in
    subst (λ (t : Rows). t.spare ≤ min (spare c.swap_remove-found.new.self) (c.rename.new.self.slots - length c.rename.new.self.ids)) c.self.view_is
    (spare_taken (spare c.self.inside.by_slot) (spare c.swap_remove-found.new.self) c.self.inside.order.slots c.rename.new.self.slots (length ids) (length c.rename.new.self.ids) c.swap_remove-found.ensures.room.0
    (ap (λ (o : Order). o.slots) c.rename.ensures ∙ ap (λ (o : Order). o.slots) c.remove.ensures)
    (omega (arith, fewer_ids keys ids c.self.invariant slot within, ap length (named (goal.at.returns-clause-spare c).After-swap_remove-found), length-map (filter (λ x. not (x == slot)) ids) (λ id. if id == (c.len-last.result - 1) then slot else id))))
