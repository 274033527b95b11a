use Rattle.std.proofs.Common.{◌≡◌, ◌≢◌, ◌≤◌, ℕ, List, length}
use Rattle.dist_rows.specs.Squares.{IsSquare, cell_of}
use Rattle.role_graph.specs.Helps.Kept.{linked_of}
use Rattle.role_graph.specs.Helps.Mended.{IsReset}
use Rattle.role_graph.specs.Helps.Roles.{nodes_of}
use Rattle.role_graph.specs.Helps.Squares.{IsBefore}
use Rattle.role_graph.proofs.repair.reset_row.Given as goal

abbrev pub invariant-loop-other : goal.invariant-loop-other
invariant-loop-other l = record {
  long : length l.square.cells ≡ length l.fn.square.cells;
  square : IsSquare l.square.cells;
  spare : l.square.spare ≡ l.fn.square.spare;
  others : (a b : ℕ) → a ≢ l.node → cell_of l.square.cells a b ≡ cell_of l.fn.square.cells a b;
  later : (b : ℕ) → l.other ≤ b → cell_of l.square.cells l.node b ≡ cell_of l.fn.square.cells l.node b;
  reset : (old : List (List ℕ)) → ((b : ℕ) → cell_of l.fn.square.cells l.node b ≡ cell_of old l.node b) → length l.fn.square.cells ≡ length old → IsBefore (linked_of l.links) (nodes_of l.roles) l.touched old
      → IsReset (linked_of l.links) (nodes_of l.roles) old l.node l.other l.square.cells;
}
