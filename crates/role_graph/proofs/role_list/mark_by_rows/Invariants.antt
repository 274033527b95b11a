use Rattle.std.proofs.Common.{◌<◌, ◌-◌, ℕ, suc, length}
use Rattle.role_graph.specs.Helps.Distances.{ReachesByGroup}
use Rattle.role_graph.specs.Helps.Kept.{linked_of}
use Rattle.role_graph.specs.Helps.Roles.{nodes_of}
use Rattle.role_graph.specs.Helps.Squares.{name_at}
use Rattle.role_graph.proofs.PickLemmas.{MarksAlso}
use Rattle.role_graph.proofs.role_list.mark_by_rows.Given as goal

abbrev pub decreases-loop-at : goal.decreases-loop-at
decreases-loop-at l = 200000 - l.place

abbrev pub invariant-loop-at : goal.invariant-loop-at
invariant-loop-at l = (a : ℕ) → a < length (nodes_of l.roles) → MarksAlso (λ b. ReachesByGroup (linked_of l.links) l.x (name_at (nodes_of l.roles) b) l.place (suc l.most)) l.fn.marks l.marks a
