use Rattle.std.proofs.Common.{arith}
use Rattle.policy_index.specs.Helps.Filters.{columns_from}
use Rattle.policy_index.proofs.FilterLemmas.{columns_all, columns_more, columns_none}
use Rattle.policy_index.proofs.filters.columns_of.Goals as goal

pub loop-place-init : goal.loop-place-init
loop-place-init c = columns_none c.new-columns.result.items c.args.at c.args.values.now c.new-columns.ensures.items

pub loop-place-preserved : goal.loop-place-preserved
loop-place-preserved c =
    columns_more c.args.at c.loop-place.place c.args.values.now c.value_at.result.now c.loop-place.columns.items c.push_column.new.columns.items (columns_from c.args.at c.args.values.now) c.loop-place-test.true c.value_at.ensures
    c.in_ok-push_column.ensures c.loop-place.invariant

pub returns : goal.returns
returns c = columns_all c.loop-place.columns.items c.args.at c.loop-place.place c.args.values.now (columns_from c.args.at c.args.values.now) (omega (arith, c.loop-place-test.false)) c.loop-place.invariant
