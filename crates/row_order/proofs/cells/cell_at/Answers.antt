use Rattle.std.proofs.Common.{arith}
use Rattle.row_order.proofs.CellLemmas.{count_le}
use Rattle.row_order.proofs.cells.cell_at.Goals as goal

pub loop-high-init : goal.loop-high-init
loop-high-init c = record {
  ordered = omega (arith, count_le c.args.cells.now c.args.tail, c.requires.within);
  within = omega arith;
  below = omega (arith, count_le c.args.cells.now c.args.place);
  above = c.requires.within;
}

pub number_at-requires-clause-fits : goal.number_at-requires-clause-fits
number_at-requires-clause-fits c =
    omega (
      arith,
      c.requires.counted.counted c.tested_next-middle.result (omega (arith, c.tested_next-middle.ensures.before, c.loop-high.invariant.within)),
      count_le c.args.cells.now c.tested_next-middle.result,
      c.requires.counted.small,
      c.requires.counted.within,
    )
