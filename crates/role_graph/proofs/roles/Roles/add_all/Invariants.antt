use Rattle.std.proofs.Common.{◌≡◌, false, ◌+◌, ◌++◌, ◌≤◌, ◌<◌, ◌^◌, List, ℕ, length}
use Rattle.std.specs.List.{count_by, list_any}
use Rattle.std.specs.Str.{bytes_eq}
use Rattle.perm_base.specs.LineEnds.{has_line_end}
use Rattle.role_graph.specs.Helps.Roles.{count_of, nodes_of}
use Rattle.role_graph.proofs.roles.Roles.add_all.Given as goal

abbrev pub decreases-loop-role : goal.decreases-loop-role
decreases-loop-role l = length l.roles

abbrev pub invariant-loop-role : goal.invariant-loop-role
invariant-loop-role l = record {
  counted : (name : List ℕ) → count_of l.self name + count_by (bytes_eq name) l.roles ≡ count_of l.fn.self name + count_by (bytes_eq name) l.fn.roles;
  few : (name : List ℕ) → count_of l.self name + length l.roles < 2 ^ 64;
  whole_lines : list_any has_line_end l.roles ≡ false;
  room : length l.roles ≤ l.self.spare;
  places : (more : List (List ℕ)) × (nodes_of l.self ≡ nodes_of l.fn.self ++ more);
}
