use Rattle.std.proofs.Common.{arith}
use Rattle.row_order.proofs.CarryLemmas.{carried_step}
use Rattle.row_order.proofs.insertion.carry_on.Goals as goal

pub overflow_cast-cell_of : goal.overflow_cast-cell_of
overflow_cast-cell_of c = omega (arith, c.loop-at.invariant.within, c.loop-at.invariant.small, c.loop-at-test.true)

pub loop-at-preserved : goal.loop-at-preserved
loop-at-preserved c = carried_step c.loop-at.invariant c.in-Some.next c.loop-at-test.true c.in-Some.is
