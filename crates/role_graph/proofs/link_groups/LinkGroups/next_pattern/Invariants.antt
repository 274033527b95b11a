use Rattle.std.proofs.Common.{◌≤◌, ◌<◌, ℕ}
use Rattle.role_graph.specs.Helps.Kept.{linked_of}
use Rattle.role_graph.specs.Helps.Walks.{FitsAt}
use Rattle.role_graph.proofs.link_groups.LinkGroups.next_pattern.Given as goal

abbrev pub invariant-loop-at : goal.invariant-loop-at
invariant-loop-at l = (other : ℕ) → l.from ≤ other → other < l.at → FitsAt (linked_of l.fn.self) l.name other → ⊥
