use Rattle.std.proofs.Common.{◌≡◌, List, ap, subst, sym, ◌∙◌}
use Rattle.std.specs.List.{IsDistinct}
use Rattle.row_order.specs.Orders.{Order}
use Rattle.policy_table.specs.Helps.Orders.{IsTable, in_order}
use Rattle.policy_table.specs.Helps.Rows.{Rows}
use Rattle.policy_table.specs.Tables.{Fields, same}
use Rattle.policy_table.proofs.table.Table.copy.Goals as goal
use Rattle.policy_table.proofs.table.Table.copy.Goals.{In_ok-order}

-- the copy has the same slots
same_slots : (c : In_ok-order) → c.in_ok-by_slot.by_slot.keys ≡ c.self.inside.by_slot.keys
same_slots c = c.in_ok-by_slot.ensures ∙ c.as_slice.ensures.keys

pub copy_of-requires : goal.copy_of-requires
copy_of-requires c = subst (IsDistinct same) (sym c.as_slice.ensures.keys) c.self.invariant.once

pub invariant_of-result : goal.invariant_of-result
invariant_of-result c =
    let order = (goal.at.invariant_of-result c).In_ok-order in
    subst (λ (o : Order). IsTable c.in_ok-by_slot.by_slot.keys o.ids) (sym c.in_ok-order.ensures) (subst (λ (l : List Fields). IsTable l c.self.inside.order.ids) (sym (same_slots order)) c.self.invariant)

pub returns-clause-rules : goal.returns-clause-rules
returns-clause-rules c =
    let order = (goal.at.returns-clause-rules c).In_ok-order in
    (λ j. in_order (same_slots order j) (ap (λ (o : Order). o.ids) c.in_ok-order.ensures j)) ∙ ap (λ (t : Rows). t.rules) c.self.view_is

pub returns-clause-slots : goal.returns-clause-slots
returns-clause-slots c = same_slots (goal.at.returns-clause-slots c).In_ok-order ∙ ap (λ (t : Rows). t.slots) c.self.view_is
