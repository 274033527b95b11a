use Rattle.std.proofs.Common.{ap}
use Rattle.row_order.specs.Orders.{Order}
use Rattle.policy_table.specs.Helps.Orders.{in_order}
use Rattle.policy_table.proofs.SlotLemmas.{empty_table}
use Rattle.policy_table.proofs.table.Table.new.Goals as goal

pub invariant_of-result : goal.invariant_of-result
invariant_of-result c = empty_table _ _ c.new.ensures.empty (ap (λ (o : Order). o.ids) c.new-2.ensures)

pub returns-clause-rules : goal.returns-clause-rules
returns-clause-rules c = (λ j. in_order (c.new.ensures.empty j) (ap (λ (o : Order). o.ids) c.new-2.ensures j))
