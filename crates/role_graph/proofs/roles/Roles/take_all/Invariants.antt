use Rattle.std.proofs.Common.{◌≡◌, ◌⊎◌, ◌+◌, ◌<◌, List, ℕ, length, take}
use Rattle.std.specs.List.{count_by}
use Rattle.std.specs.Str.{bytes_eq}
use Rattle.role_graph.specs.Helps.Roles.{count_of, nodes_of}
use Rattle.role_graph.proofs.roles.Roles.take_all.Given as goal

abbrev pub invariant-loop-role : goal.invariant-loop-role
invariant-loop-role l = record {
  counted : (name : List ℕ) → count_of l.self name + count_by (bytes_eq name) (take l.role-index l.roles) ≡ count_of l.fn.self name;
  places : (nodes_of l.self ≡ nodes_of l.fn.self) ⊎ (length (nodes_of l.self) < length (nodes_of l.fn.self));
}
