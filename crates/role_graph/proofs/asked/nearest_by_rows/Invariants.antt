use Rattle.std.proofs.Common.{◌≤◌, ◌+◌, ◌-◌, take}
use Rattle.role_meaning.specs.Distances.{farthest}
use Rattle.role_meaning.specs.Least.{IsLeast}
use Rattle.role_graph.specs.Graph.{asked_rows}
use Rattle.role_graph.specs.Groups.{rows_of}
use Rattle.role_graph.specs.Helps.Distances.{ReachesByGroup}
use Rattle.role_graph.specs.Helps.Kept.{linked_of}
use Rattle.role_graph.specs.Helps.Roles.{nodes_of}
use Rattle.role_graph.specs.Helps.Squares.{name_at}
use Rattle.role_graph.proofs.asked.nearest_by_rows.Given as goal

abbrev pub decreases-loop-at : goal.decreases-loop-at
decreases-loop-at g l = 200000 - l.place

abbrev pub invariant-loop-at : goal.invariant-loop-at
invariant-loop-at g l = record {
  far : IsLeast farthest (λ far. ReachesByGroup (linked_of l.links) l.x (name_at (nodes_of l.roles) l.to) l.place far) l.least;
  steps : l.fn.steps ≤ l.steps;
  few_steps : l.steps ≤ l.fn.steps + asked_rows l.links.names l.x (rows_of (take l.place (linked_of l.links).groups));
}
