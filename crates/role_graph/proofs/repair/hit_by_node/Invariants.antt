use Rattle.std.proofs.Common.{◌≡◌, ◌⊎◌, ◌+◌, ◌<◌, ℕ, length}
use Rattle.dist_rows.specs.Squares.{cell_of}
use Rattle.role_graph.specs.Helps.Kept.{linked_of}
use Rattle.role_graph.specs.Helps.Mended.{IsKept}
use Rattle.role_graph.specs.Helps.Roles.{nodes_of}
use Rattle.role_graph.specs.Helps.Squares.{IsMarked, IsNear}
use Rattle.role_graph.proofs.repair.hit_by_node.Given as goal

abbrev pub invariant-loop-other : goal.invariant-loop-other
invariant-loop-other l = record {
  keeps : (a : ℕ) → IsMarked l.fn.hits a → IsMarked l.hits a;
  hits : (to : ℕ) → to < l.other → (a : ℕ) → a < length l.square.cells → IsNear l.square.cells l.node to → cell_of l.square.cells a to ≡ 1 + cell_of l.square.cells a l.node
      → IsKept (linked_of l.links) (nodes_of l.roles) l.square.cells l.node to ⊎ IsMarked l.hits a;
}
