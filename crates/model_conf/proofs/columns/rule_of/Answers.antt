use Rattle.model_conf.proofs.ColumnLemmas.{columns_are_fields, taken_more}
use Rattle.model_conf.proofs.columns.rule_of.Goals as goal

pub loop-name-preserved : goal.loop-name-preserved
loop-name-preserved c = taken_more c.loop-name.fields.items _ c.args.names.now _ c.loop-name.name-index c.in_ok-from_str.field-0 c.loop-name.invariant c.loop-name-test.true c.in_ok-from_str.ensures c.in_ok-push.ensures.items

pub from_vec-requires : goal.from_vec-requires
from_vec-requires c = columns_are_fields c.loop-name.fields.items c.args.names.now c.loop-name.name-index c.requires c.loop-name-test.false c.loop-name.invariant
