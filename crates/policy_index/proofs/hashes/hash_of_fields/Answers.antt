use Rattle.std.proofs.Common.{length}
use Rattle.policy_index.proofs.HashLemmas.{below_more, fields_more}
use Rattle.policy_index.proofs.hashes.hash_of_fields.Goals as goal

pub loop-column-preserved : goal.loop-column-preserved
loop-column-preserved c = record {
  hash =
      fields_more c.args.columns.now c.args.rule.now c.loop-column.column-index _ c.loop-column.hash c.hash_with-hash.result _ c.field.result.now c.loop-column-test.true c.field.ensures.value c.hash_with-hash.ensures.value
      c.loop-column.invariant.hash;
  below = below_more c.args.columns.now (length c.args.rule.now) c.loop-column.column-index c.loop-column-test.true c.loop-column.invariant.below;
}
