use Rattle.std.proofs.Common.{◌≡◌, ℕ, drop, map, take}
use Rattle.std.specs.Str.{bytes_eq}
use Rattle.indexmap.specs.IndexSet.{contains}
use Rattle.role_meaning.specs.Links.{user_of}
use Rattle.role_graph.specs.Helps.Kept.{linked_of}
use Rattle.role_graph.specs.Helps.Users.{Chooses}
use Rattle.role_graph.proofs.users.users_among.Given as goal

abbrev pub invariant-loop-row : goal.invariant-loop-row
invariant-loop-row l = (n : ℕ) × (l.row-iterator ≡ drop n l.fn.rows)
    × Chooses (linked_of l.links) l.x l.leading (map user_of (take n l.fn.rows)) (contains bytes_eq l.initial.seen) (contains bytes_eq l.seen) l.initial.users.items l.users.items
