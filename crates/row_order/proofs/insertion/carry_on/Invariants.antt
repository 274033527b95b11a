use Rattle.std.proofs.Common.{◌-◌}
use Rattle.row_order.specs.Helps.Cells.{IsCarried}
use Rattle.row_order.proofs.insertion.carry_on.Given as goal

abbrev pub invariant-loop-at : goal.invariant-loop-at
invariant-loop-at l = IsCarried l.fn.cells l.cells l.fn.cell_of l.cell_of l.tail l.fn.cell l.at l.fn.id l.carried

abbrev pub decreases-loop-at : goal.decreases-loop-at
decreases-loop-at l = l.tail - l.at
