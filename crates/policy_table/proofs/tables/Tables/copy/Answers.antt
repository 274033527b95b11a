use Rattle.std.proofs.Common.{arith, ap, ◌∙◌}
use Rattle.policy_table.specs.Held.{Held}
use Rattle.policy_table.proofs.RoomLemmas.{more_copied, nine_empty, none_copied, policy_copied, slots_copied, tables_copied}
use Rattle.policy_table.proofs.tables.Tables.copy.Goals as goal

pub loop-at-init : goal.loop-at-init
loop-at-init c = none_copied c.self.inside.tables c.empty-tables.result (nine_empty c.empty-tables.result c.empty-tables.ensures.rules) c.empty-tables.ensures.counted

pub loop-at-preserved : goal.loop-at-preserved
loop-at-preserved c =
    more_copied c.self.inside.tables c.loop-at.at c.loop-at.tables c.in_ok-tables.field-0 c.index-self-at.result c.self.invariant.kept.lists.counted c.loop-at.invariant c.loop-at-test.true c.in_ok-tables.ensures.rules c.in_ok-tables.ensures.slots c.self.invariant.counted c.in_ok-tables.ensures.counted

pub invariant_of-result : goal.invariant_of-result
invariant_of-result c = tables_copied c.self.inside.ranked c.self.inside.tables c.loop-at.at c.loop-at.tables c.self.invariant c.loop-at.invariant (omega (arith, c.loop-at-test.false))

pub returns-clause-policy : goal.returns-clause-policy
returns-clause-policy c =
    policy_copied c.self.inside.ranked c.self.inside.tables c.loop-at.at c.loop-at.tables c.self.invariant.kept.lists.counted c.loop-at.invariant (omega (arith, c.loop-at-test.false))
    ∙ ap (λ (h : Held). h.policy) c.self.view_is

pub returns-clause-slots : goal.returns-clause-slots
returns-clause-slots c =
    slots_copied c.self.inside.tables c.loop-at.at c.loop-at.tables c.self.invariant.kept.lists.counted c.loop-at.invariant (omega (arith, c.loop-at-test.false)) ∙ ap (λ (h : Held). h.slots) c.self.view_is
