use Rattle.std.proofs.Common.{arith, subst}
use Rattle.policy_table.specs.Helps.Rows.{Rows}
use Rattle.policy_table.specs.Slots.{AreSlots}
use Rattle.policy_table.proofs.SlotLemmas.{are_slots}
use Rattle.policy_table.proofs.table.Table.by_slot.Goals as goal

pub returns-clause-stand : goal.returns-clause-stand
returns-clause-stand c = subst (λ (t : Rows). AreSlots t.slots t.rules) c.self.view_is (are_slots c.self.inside.by_slot.keys c.self.inside.order.ids c.self.invariant)

pub returns-clause-few : goal.returns-clause-few
returns-clause-few c = omega (arith, c.len-few.ensures.slots, c.len-few.ensures.few)
