use Rattle.std.proofs.Common.{ap, sym, ◌∙◌}
use Rattle.policy_table.specs.Helps.Rows.{Rows}
use Rattle.policy_table.specs.Tables.{stands}
use Rattle.policy_table.proofs.SlotLemmas.{stands_order}
use Rattle.policy_table.proofs.table.Table.has.Goals as goal

pub returns : goal.returns
returns c =
    c.contains.ensures ∙ sym (stands_order c.self.inside.by_slot.keys c.self.inside.order.ids c.self.invariant c.args.rule.now) ∙ ap (λ (t : Rows). stands c.args.rule.now t.rules) c.self.view_is
