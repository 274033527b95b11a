use Rattle.std.proofs.Common.{rules}
use Rattle.model_conf.proofs.ColumnLemmas.{columns_last, columns_more}
use Rattle.model_conf.proofs.columns.cut_columns.Goals as goal

pub loop-name-preserved : goal.loop-name-preserved
loop-name-preserved c = record {
  utf8 = search rules;
  columns = columns_more c.loop-name.names.items _ c.trimmed.result c.loop-name.rest.now c.in-Some.name.now c.in-Some.behind.now c.args.text.now c.in_ok-push.ensures.items c.trimmed.ensures c.in-Some.ensures.parts c.in-Some.ensures.first c.loop-name.invariant.columns;
}

pub returns : goal.returns
returns c = columns_last c.loop-name.names.items _ c.trimmed-2.result c.loop-name.rest.now c.args.text.now c.in_ok-push-2.ensures.items c.trimmed-2.ensures c.in_default.ensures.none c.loop-name.invariant.columns
