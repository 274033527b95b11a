use Rattle.std.proofs.Common.{◌<◌, ℕ}
use Rattle.role_meaning.specs.Fits.{Fits}
use Rattle.role_graph.specs.Helps.Roles.{nodes_of}
use Rattle.role_graph.specs.Helps.Squares.{IsMarked, name_at}
use Rattle.role_graph.proofs.touched.touch_fitting.Given as goal

abbrev pub invariant-loop-node : goal.invariant-loop-node
invariant-loop-node l = record {
  keeps : (a : ℕ) → IsMarked l.fn.marks a → IsMarked l.marks a;
  fitting : (a : ℕ) → a < l.node → Fits l.names (name_at (nodes_of l.roles) a) l.pattern → IsMarked l.marks a;
}
