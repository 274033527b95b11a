use Rattle.std.proofs.Common.{◌≡◌, length}
use Rattle.row_order.specs.Helps.Cells.{live}
use Rattle.row_order.proofs.ids.IdsIterator.next.Given as goal

-- only empty cells were passed over
abbrev pub invariant-loop-cell : goal.invariant-loop-cell
invariant-loop-cell l = live l.self-inside.cells.now ≡ l.fn.self

abbrev pub decreases-loop-cell : goal.decreases-loop-cell
decreases-loop-cell l = length l.self-inside.cells.now
