use Rattle.std.proofs.Common.{subst, sym}
use Rattle.policy_table.specs.Slots.{slots, slots_after}
use Rattle.policy_table.specs.declared.change.Change.{Change}
use Rattle.policy_index.specs.Indexed.{IsIndexOf}
use Rattle.policy_index.proofs.filter_index.follow_own.Goals as goal

pub returns-in-Insert-clause-rows : goal.returns-in-Insert-clause-rows
returns-in-Insert-clause-rows c = λ ok.
    subst (λ (change : Change). IsIndexOf c.append.new.self (slots_after change (slots c.args.tables.now c.args.table))) (sym c.in-Insert.is) (c.append.ensures.rows ok (slots c.args.tables.now c.args.table) c.requires)

pub returns-in-Remove-clause-rows : goal.returns-in-Remove-clause-rows
returns-in-Remove-clause-rows c = λ ok. subst (λ (change : Change). IsIndexOf c.follow_removed.new.index (slots_after change (slots c.args.tables.now c.args.table))) (sym c.in-Remove.is) (c.follow_removed.ensures.rows ok)

pub returns-in-Replace-clause-rows : goal.returns-in-Replace-clause-rows
returns-in-Replace-clause-rows c = λ ok. subst (λ (change : Change). IsIndexOf c.follow_replaced.new.index (slots_after change (slots c.args.tables.now c.args.table))) (sym c.in-Replace.is) (c.follow_replaced.ensures.rows ok)
