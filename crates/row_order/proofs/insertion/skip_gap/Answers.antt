use Rattle.std.proofs.Common.{arith}
use Rattle.row_order.proofs.CountedLemmas.{opened_low, counted_opened, gap_count}
use Rattle.row_order.proofs.insertion.skip_gap.Goals as goal

pub open_cell-requires-clause-low : goal.open_cell-requires-clause-low
open_cell-requires-clause-low c =
    opened_low c.loop-at.invariant.counted c.args.count (gap_count c.requires.ended c.loop-at.at c.args.count c.loop-at.invariant.forward c.requires.count)

pub loop-at-preserved : goal.loop-at-preserved
loop-at-preserved c = record {
  counted = counted_opened c.loop-at.invariant.counted c.loop-at.invariant.room
      (gap_count c.requires.ended c.loop-at.at c.args.count c.loop-at.invariant.forward c.requires.count) c.open_cell.ensures;
  forward = omega (arith, c.loop-at.invariant.forward);
  room = omega (arith, c.if-at-cells.true);
}
