use Rattle.std.proofs.Common.{◌≡◌, ◌+◌, ◌<◌, ℕ, length}
use Rattle.dist_rows.specs.Squares.{cell_of, most_nodes}
use Rattle.role_graph.specs.Helps.Squares.{IsMarked}
use Rattle.role_graph.proofs.repair.hit_through.Given as goal

abbrev pub invariant-loop-node : goal.invariant-loop-node
invariant-loop-node l = record {
  long : length l.hits ≡ most_nodes;
  keeps : (a : ℕ) → IsMarked l.fn.hits a → IsMarked l.hits a;
  hits : (a : ℕ) → a < l.node → cell_of l.square.cells a l.to ≡ 1 + cell_of l.square.cells a l.from → IsMarked l.hits a;
}
