use Rattle.std.proofs.Common.{arith}
use Rattle.perm_base.specs.declared.shapes.TableId.TheVariants.{G}
use Rattle.policy_table.specs.Helps.Moves.{is_gone}
use Rattle.policy_table.specs.Limits.{domains_of}
use Rattle.policy_table.specs.Tables.{rows}
use Rattle.policy_table.proofs.MovedLemmas.{byte_few, count_more}
use Rattle.policy_table.proofs.counts_after.gone_domains.Goals as goal

pub loop-text-preserved : goal.loop-text-preserved
loop-text-preserved c = record {
  counted = count_more (is_gone (domains_of (rows c.args.tables.now.policy (G c.args.number))) c.args.put.now c.args.taken.now) c.texts-text-items.result.now c.loop-text.text-index c.text-item.result c.is_gone.result
      c.loop-text.count _ c.loop-text-test.true c.text-item.is c.from-count.ensures c.is_gone.ensures c.loop-text.invariant.counted;
  few = omega (arith, c.loop-text.invariant.few, byte_few c.is_gone.result _ c.from-count.ensures);
}
