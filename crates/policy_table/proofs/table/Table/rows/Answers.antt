use Rattle.std.proofs.Common.{arith, ap, subst, ◌∙◌}
use Rattle.std.specs.List.{IsDistinct}
use Rattle.policy_table.specs.Helps.Orders.{in_order}
use Rattle.policy_table.specs.Helps.Rows.{Rows}
use Rattle.policy_table.specs.Tables.{same}
use Rattle.policy_table.proofs.SlotLemmas.{below, rows_once}
use Rattle.policy_table.proofs.table.Table.rows.Goals as goal

pub new-requires : goal.new-requires
new-requires c = rw (c.as_slice.ensures.keys, c.ids.ensures) (below c.self.inside.by_slot.keys c.self.inside.order.ids c.self.invariant)

pub returns-clause-value : goal.returns-clause-value
returns-clause-value c = c.new.ensures ∙ (λ j. in_order (c.as_slice.ensures.keys j) (c.ids.ensures j)) ∙ ap (λ (t : Rows). t.rules) c.self.view_is

pub returns-clause-once : goal.returns-clause-once
returns-clause-once c = subst (λ (t : Rows). IsDistinct same t.rules) c.self.view_is (rows_once c.self.inside.by_slot.keys c.self.inside.order.ids c.self.invariant)

pub returns-clause-few : goal.returns-clause-few
returns-clause-few c = omega (arith, c.len-few.ensures.value, c.len-few.ensures.few)
