use Rattle.std.proofs.Common.{◌<◌, ◌≤◌, ℕ, length, get_or}
use Rattle.dist_rows.specs.Squares.{most_nodes}
use Rattle.role_meaning.specs.Fits.{Fits}
use Rattle.role_graph.specs.Helps.Roles.{nodes_of}
use Rattle.role_graph.specs.Helps.Squares.{IsMarked, name_at}
use Rattle.role_graph.specs.Helps.Walks.{no_group}
use Rattle.role_graph.proofs.touched.touched.Given as goal

abbrev pub invariant-loop-place : goal.invariant-loop-place
invariant-loop-place l = record {
  fresh : (a : ℕ) → l.known ≤ a → a < most_nodes → IsMarked l.marks a;
  fitting : (a at : ℕ) → at < l.place → a < most_nodes → a < length (nodes_of l.roles) → Fits l.names (name_at (nodes_of l.roles) a) (get_or l.edits at no_group).user → IsMarked l.marks a;
}
