use Rattle.std.proofs.Common.{◌-◌, ◌<◌, ◌≤◌, length}
use Rattle.row_order.specs.Helps.Cells.{IsCounted}
use Rattle.row_order.proofs.insertion.skip_gap.Given as goal

abbrev pub invariant-loop-at : goal.invariant-loop-at
invariant-loop-at l = record {
  counted : IsCounted l.cells l.rank l.before l.at;
  forward : l.tail ≤ l.at;
  room : l.at < length l.cells;
}

abbrev pub decreases-loop-at : goal.decreases-loop-at
decreases-loop-at l = length l.cells - l.at
