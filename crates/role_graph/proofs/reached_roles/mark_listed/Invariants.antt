use Rattle.std.proofs.Common.{◌<◌, ℕ, length, take}
use Rattle.std.specs.List.{Contains}
use Rattle.role_graph.specs.Helps.Kept.{linked_of}
use Rattle.role_graph.specs.Helps.ReachMarks.{HasRoleIn, SetsAlso}
use Rattle.role_graph.specs.Helps.Roles.{nodes_of}
use Rattle.role_graph.specs.Helps.Squares.{name_at}
use Rattle.role_graph.proofs.reached_roles.mark_listed.Given as goal

abbrev pub invariant-loop-index : goal.invariant-loop-index
invariant-loop-index l = (a : ℕ) → a < length (nodes_of l.roles) → SetsAlso (λ b. HasRoleIn (linked_of l.links) (Contains (take l.index l.listed)) (name_at (nodes_of l.roles) b)) l.initial.marks l.marks a
