use Rattle.std.proofs.Common.{arith, rules}
use Rattle.policy_table.specs.Tables.{same}
use Rattle.policy_table.proofs.RowLemmas.{insert_key-take, same-Decides}
use Rattle.policy_table.proofs.table.copy_of.Goals as goal

pub loop-rule-preserved : goal.loop-rule-preserved
loop-rule-preserved c =
    insert_key-take same same-Decides _ c.args.by_slot.now _ _ c.loop-rule.rule-index c.requires (omega arith) c.loop-rule.invariant (search rules) c.in_ok-_new.ensures.keys
