use Rattle.std.proofs.Common.{◌≡◌, ◌+◌, take}
use Rattle.role_meaning.specs.Distances.{farthest}
use Rattle.role_meaning.specs.Least.{IsLeast}
use Rattle.role_graph.specs.Helps.Distances.{ReachesBySome}
use Rattle.role_graph.specs.Helps.Kept.{linked_of}
use Rattle.role_graph.specs.Helps.Roles.{nodes_of}
use Rattle.role_graph.specs.Helps.Squares.{name_at}
use Rattle.role_graph.proofs.asked.nearest_by_roles.Given as goal

abbrev pub invariant-loop-name : goal.invariant-loop-name
invariant-loop-name g l = record {
  far : IsLeast farthest (λ far. ReachesBySome (linked_of l.links) (take l.name-index l.names) (name_at (nodes_of l.roles) l.to) far) l.least;
  steps : l.steps ≡ l.fn.steps + l.name-index;
}
