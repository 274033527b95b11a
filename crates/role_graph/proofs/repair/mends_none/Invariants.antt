use Rattle.std.proofs.Common.{◌≡◌, ◌<◌, ℕ, List, length}
use Rattle.dist_rows.specs.Squares.{cell_of}
use Rattle.role_graph.specs.Helps.Mended.{IsMending, IsStableAt}
use Rattle.role_graph.specs.Helps.Squares.{IsMarked}
use Rattle.role_graph.specs.Helps.Walks.{Linked}
use Rattle.role_graph.proofs.repair.mends_none.Given as goal

abbrev pub invariant-loop-node : goal.invariant-loop-node
invariant-loop-node l = record {
  long : length l.square.cells ≡ length l.fn.square.cells;
  spare : l.square.spare ≡ l.fn.square.spare;
  same : (a b : ℕ) → b < length l.fn.square.cells → cell_of l.square.cells a b ≡ cell_of l.fn.square.cells a b;
  mends : (linked : Linked) (names old : List (List ℕ)) → IsMending linked names old l.hits l.fn.square.cells → IsMending linked names old l.hits l.square.cells;
  stable : (a : ℕ) → a < l.node → IsMarked l.hits a → IsStableAt l.fn.square.cells a;
}
