use Rattle.std.proofs.Common.{◌-◌, ◌<◌, ◌≤◌, length, take}
use Rattle.row_order.specs.Helps.Cells.{live}
use Rattle.row_order.proofs.cells.cell_at.Given as goal

abbrev pub invariant-loop-high : goal.invariant-loop-high
invariant-loop-high l = record {
  ordered : l.low < l.high;
  within : l.high ≤ l.tail;
  below : length (live (take l.low l.cells)) ≤ l.place;
  above : l.place < length (live (take l.high l.cells));
}

abbrev pub decreases-loop-high : goal.decreases-loop-high
decreases-loop-high l = l.high - l.low
