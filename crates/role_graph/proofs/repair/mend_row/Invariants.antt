use Rattle.std.proofs.Common.{◌≡◌, ◌≢◌, ◌<◌, ◌≤◌, ℕ, Bool, List, length}
use Rattle.dist_rows.specs.Squares.{cell_of}
use Rattle.role_graph.specs.Helps.Mended.{IsMending}
use Rattle.role_graph.specs.Helps.Squares.{IsMarked}
use Rattle.role_graph.specs.Helps.Walks.{Linked}
use Rattle.role_graph.proofs.Mended.{IsByRow, IsLowBefore}
use Rattle.role_graph.proofs.repair.mend_row.Given as goal

abbrev pub invariant-loop-next : goal.invariant-loop-next
invariant-loop-next l = record {
  long : length l.square.cells ≡ length l.fn.square.cells;
  spare : l.square.spare ≡ l.fn.square.spare;
  others : (a b : ℕ) → a ≢ l.node → cell_of l.square.cells a b ≡ cell_of l.fn.square.cells a b;
  lower : (b : ℕ) → b < length l.fn.square.cells → cell_of l.square.cells l.node b ≤ cell_of l.fn.square.cells l.node b;
  low : IsLowBefore l.node l.next l.fn.square.cells l.square.cells;
  mends : (linked : Linked) (names old : List (List ℕ)) (hits : List Bool) → IsMarked hits l.node → IsMending linked names old hits l.fn.square.cells → IsByRow linked names old hits l.node l.next l.fn.square.cells l.square.cells;
}
