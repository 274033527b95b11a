use Rattle.std.proofs.Common.{◌<◌, ◌-◌, ℕ, length}
use Rattle.role_graph.specs.Helps.Kept.{linked_of}
use Rattle.role_graph.specs.Helps.Marks.{IsSet}
use Rattle.role_graph.specs.Helps.ReachMarks.{HasRoleIn, SetsAlso}
use Rattle.role_graph.specs.Helps.Roles.{nodes_of}
use Rattle.role_graph.specs.Helps.Squares.{name_at}
use Rattle.role_graph.proofs.reached_roles.mark_groups.Given as goal

abbrev pub decreases-loop-at : goal.decreases-loop-at
decreases-loop-at l = 200000 - l.place

abbrev pub invariant-loop-at : goal.invariant-loop-at
invariant-loop-at l = (a : ℕ) → a < length (nodes_of l.roles) → SetsAlso (λ b. HasRoleIn (linked_of l.links) (λ at. (at < l.place) × IsSet l.groups at) (name_at (nodes_of l.roles) b)) l.initial.marks l.marks a
