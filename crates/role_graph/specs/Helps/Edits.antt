-- Edits of a graph by the users whose rows change.
use Rattle.std.specs.Prelude.{◌≡◌, ◌+◌, ◌<◌, ◌≤◌, ℕ, List, [], ◌∷◌, count_by, if◌then◌else◌, length, take}
use Rattle.std.specs.Str.{bytes_eq}
use Rattle.policy_table.specs.Tables.{Fields}
use Rattle.role_graph.specs.Groups.{Group, times}
use Rattle.role_graph.specs.Helps.Kept.{Parts, roles_in}
use Rattle.role_graph.specs.Helps.Roles.{Counted, count_of}

-- the roles of a user among these, or else the roles that it has
abbrev pub overlay : List Group → List (List ℕ) → List ℕ → List (List ℕ)
overlay [] base user = base
overlay (group ∷ groups) base user = if bytes_eq user group.user then group.roles else overlay groups base user

-- how often a row is one of those of a user whose roles are counted
abbrev pub counted_rows : List ℕ → Counted → Fields → ℕ
counted_rows user counted [] = 0
counted_rows user counted (one ∷ []) = 0
counted_rows user counted (one ∷ role ∷ []) = if bytes_eq one user then count_of counted role else 0
counted_rows user counted (one ∷ role ∷ more ∷ rest) = 0

-- the rows from a place to another are of one user, and their roles are counted
pub record IsRun (user : List ℕ) (all : List Fields) (from to : ℕ) (counted : Counted) : Type 0 where
  pub further : from < to
  pub within : to ≤ length all
  pub counts : (one : Fields) → times one (take to all) ≡ times one (take from all) + counted_rows user counted one

-- how often a row stands after the edit
abbrev pub standing : Parts → List Group → Fields → ℕ
standing parts changed [] = 0
standing parts changed (user ∷ []) = 0
standing parts changed (user ∷ role ∷ []) = count_by (bytes_eq role) (overlay changed (roles_in parts user) user)
standing parts changed (user ∷ role ∷ more ∷ rest) = 0
