use Rattle.std.proofs.Common.{length, ap, sym, subst, ◌∙◌}
use Rattle.std.specs.List.{IsDistinct}
use Rattle.policy_table.specs.Helps.Rows.{Rows}
use Rattle.policy_table.specs.Tables.{same}
use Rattle.policy_table.proofs.SlotLemmas.{rows_count, rows_once}
use Rattle.policy_table.proofs.table.Table.len.Goals as goal

pub returns-clause-value : goal.returns-clause-value
returns-clause-value c =
    c.len.ensures.value ∙ c.self.invariant.order.count ∙ sym (rows_count c.self.inside.by_slot.keys c.self.inside.order.ids c.self.invariant) ∙ ap (λ (t : Rows). length t.rules) c.self.view_is

pub returns-clause-slots : goal.returns-clause-slots
returns-clause-slots c = c.len.ensures.value ∙ c.self.invariant.order.count ∙ ap (λ (t : Rows). length t.slots) c.self.view_is

pub returns-clause-once : goal.returns-clause-once
returns-clause-once c = subst (λ (t : Rows). IsDistinct same t.rules) c.self.view_is (rows_once c.self.inside.by_slot.keys c.self.inside.order.ids c.self.invariant)
