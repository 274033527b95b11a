use Rattle.std.proofs.Common.{add-one, arith, sym, ◌∙◌}
use Rattle.row_order.proofs.CellLemmas.{count_here, count_le}
use Rattle.row_order.proofs.cells.stands_at.Goals as goal

pub number_at-requires-clause-fits : goal.number_at-requires-clause-fits
number_at-requires-clause-fits c =
    omega (
      arith,
      c.requires.counted.counted c.args.cell c.requires.within,
      count_le c.args.cells.now c.args.cell,
      c.requires.counted.small,
      c.requires.counted.within,
    )

pub returns-then-number_at-place-clause-one : goal.returns-then-number_at-place-clause-one
returns-then-number_at-place-clause-one c = λ here.
    rw add-one (omega (
      arith,
      c.requires.counted.counted c.args.cell c.requires.within,
      count_here c.args.cells.now c.args.cell (sym c.is_some.ensures ∙ here),
      c.number_at.ensures,
      c.if-number_at-place.true,
    ))
