use Rattle.std.proofs.Common.{◌≡◌, ◌<◌, ℕ, get_or, length}
use Rattle.dist_rows.specs.Squares.{cell_of, most_nodes}
use Rattle.role_graph.proofs.repair.distances_from.Given as goal

abbrev pub invariant-loop-other : goal.invariant-loop-other
invariant-loop-other l = record {
  long : length l.row ≡ most_nodes;
  told : (b : ℕ) → b < l.other → get_or l.row b 0 ≡ cell_of l.square.cells l.node b;
}
