use Rattle.std.proofs.Common.{arith, ◌+◌}
use Rattle.row_order.proofs.CellLemmas.{count_le, count_next}
use Rattle.row_order.proofs.CountedLemmas.{opened_low, counted_opened}
use Rattle.row_order.proofs.compaction.recount.Goals as goal

pub open_cell-requires-clause-low : goal.open_cell-requires-clause-low
open_cell-requires-clause-low c = opened_low c.loop-at.invariant.counted c.loop-at.count c.loop-at.invariant.count

pub overflow_add-count : goal.overflow_add-count
overflow_add-count c =
    omega (
      arith,
      count_next c.args.cells.now c.loop-at.at _ _ c.loop-at.invariant.count c.from-count.ensures c.is_some.ensures,
      count_le c.args.cells.now (c.loop-at.at + 1),
      c.requires.begun.small,
      c.requires.within,
    )

pub loop-at-preserved : goal.loop-at-preserved
loop-at-preserved c = record {
  counted = counted_opened c.loop-at.invariant.counted (omega (arith, c.requires.within)) c.loop-at.invariant.count c.open_cell.ensures;
  count = count_next c.args.cells.now c.loop-at.at _ _ c.loop-at.invariant.count c.from-count.ensures c.is_some.ensures;
}
