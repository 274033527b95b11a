use Rattle.std.proofs.Common.{◌<◌, ℕ, length, take}
use Rattle.std.specs.List.{Contains}
use Rattle.dist_rows.specs.Squares.{most_nodes}
use Rattle.role_graph.specs.Helps.Roles.{nodes_of}
use Rattle.role_graph.specs.Helps.Squares.{name_at}
use Rattle.role_graph.proofs.PickLemmas.{MarksAlso}
use Rattle.role_graph.proofs.linked_nodes.mark_names.Given as goal

abbrev pub invariant-loop-name : goal.invariant-loop-name
invariant-loop-name l = (b : ℕ) → b < most_nodes → b < length (nodes_of l.roles) → MarksAlso (λ k. Contains (take l.name-index l.names) (name_at (nodes_of l.roles) k)) l.fn.marks l.marks b
