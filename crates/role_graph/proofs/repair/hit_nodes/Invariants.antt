use Rattle.std.proofs.Common.{◌≡◌, ◌⊎◌, ◌+◌, ◌<◌, ℕ, length}
use Rattle.dist_rows.specs.Squares.{cell_of}
use Rattle.role_graph.specs.Helps.Kept.{linked_of}
use Rattle.role_graph.specs.Helps.Mended.{IsKept}
use Rattle.role_graph.specs.Helps.Roles.{nodes_of}
use Rattle.role_graph.specs.Helps.Squares.{IsMarked, IsNear}
use Rattle.role_graph.proofs.repair.hit_nodes.Given as goal

abbrev pub invariant-loop-node : goal.invariant-loop-node
invariant-loop-node l =
    (from : ℕ) → from < l.node → (a to : ℕ) → a < length l.square.cells → IsNear l.square.cells from to → cell_of l.square.cells a to ≡ 1 + cell_of l.square.cells a from
    → IsKept (linked_of l.links) (nodes_of l.roles) l.square.cells from to ⊎ IsMarked l.hits a
