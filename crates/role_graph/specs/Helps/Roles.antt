-- What is kept of the roles of rows: how many rows have each.
use Rattle.std.specs.Prelude.{◌≡◌, ◌≤◌, false, ℕ, List, Some, unwrap_or}
use Rattle.std.specs.Map.{keys_of, lookup}
use Rattle.std.specs.Str.{bytes_eq}
use Rattle.perm_base.specs.LineEnds.{has_line_end}

-- each different role with its number, and the room
pub record Counted : Type 0 where
  pub entries : List (List ℕ × ℕ)
  pub spare : ℕ

-- how often a role is counted
abbrev pub number_in : List (List ℕ × ℕ) → List ℕ → ℕ
number_in entries role = unwrap_or (lookup (bytes_eq role) entries) 0

abbrev pub count_of : Counted → List ℕ → ℕ
count_of counted role = number_in counted.entries role

-- the different roles, by their places
abbrev pub nodes_of : Counted → List (List ℕ)
nodes_of counted = keys_of counted.entries

-- no role that is counted has a line end
abbrev pub HasNames : List (List ℕ × ℕ) → Type 0
HasNames entries = (role : List ℕ) → 1 ≤ number_in entries role → has_line_end role ≡ false

-- no entry stands for a role that is not counted
abbrev pub HasNoZero : List (List ℕ × ℕ) → Type 0
HasNoZero entries = (role : List ℕ) → lookup (bytes_eq role) entries ≡ Some 0 → ⊥
