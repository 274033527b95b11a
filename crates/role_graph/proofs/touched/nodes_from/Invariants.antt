use Rattle.std.proofs.Common.{◌≡◌, ◌<◌, ◌≤◌, ℕ, length}
use Rattle.dist_rows.specs.Squares.{most_nodes}
use Rattle.role_graph.specs.Helps.Squares.{IsMarked}
use Rattle.role_graph.proofs.touched.nodes_from.Given as goal

abbrev pub invariant-loop-node : goal.invariant-loop-node
invariant-loop-node l = record {
  long : length l.marks ≡ most_nodes;
  marked : (a : ℕ) → l.known ≤ a → a < l.node → IsMarked l.marks a;
}
