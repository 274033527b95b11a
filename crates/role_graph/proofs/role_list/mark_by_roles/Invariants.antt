use Rattle.std.proofs.Common.{◌<◌, ℕ, suc, length, take}
use Rattle.role_graph.specs.Helps.Distances.{ReachesBySome}
use Rattle.role_graph.specs.Helps.Kept.{linked_of}
use Rattle.role_graph.specs.Helps.Roles.{nodes_of}
use Rattle.role_graph.specs.Helps.Squares.{name_at}
use Rattle.role_graph.proofs.PickLemmas.{MarksAlso}
use Rattle.role_graph.proofs.role_list.mark_by_roles.Given as goal

abbrev pub invariant-loop-name : goal.invariant-loop-name
invariant-loop-name l = (a : ℕ) → a < length (nodes_of l.roles) → MarksAlso (λ b. ReachesBySome (linked_of l.links) (take l.name-index l.names) (name_at (nodes_of l.roles) b) (suc l.most)) l.fn.marks l.marks a
