use Rattle.std.proofs.Common.{◌<◌, ℕ, length, take}
use Rattle.std.specs.List.{Contains}
use Rattle.role_graph.specs.Helps.ReachMarks.{SetsAlso}
use Rattle.role_graph.specs.Helps.Roles.{nodes_of}
use Rattle.role_graph.specs.Helps.Squares.{name_at}
use Rattle.role_graph.proofs.reached_roles.mark_roles.Given as goal

abbrev pub invariant-loop-name : goal.invariant-loop-name
invariant-loop-name l = (a : ℕ) → a < length (nodes_of l.roles) → SetsAlso (λ b. Contains (take l.name-index l.names) (name_at (nodes_of l.roles) b)) l.initial.marks l.marks a
