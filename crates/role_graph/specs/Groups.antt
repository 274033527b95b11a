-- The rows of a role graph by their users, and how often a row stands.
use Rattle.std.specs.Prelude.{ℕ, Bool, not, List, [], ◌∷◌, ◌++◌, map, filter, count_by}
use Rattle.std.specs.List.{list_any}
use Rattle.std.specs.Str.{bytes_eq}
use Rattle.policy_table.specs.Tables.{Fields, same}
use Rattle.role_meaning.specs.Links.{role_of, user_of}

-- a user, and the roles of its rows
pub record Group : Type 0 where
  pub user : List ℕ
  pub roles : List (List ℕ)

abbrev pub row : List ℕ → List ℕ → Fields
row user role = user ∷ role ∷ []

-- the rows of groups
unfoldable pub rows_of : List Group → List Fields
rows_of [] = []
rows_of (group ∷ groups) = map (row group.user) group.roles ++ rows_of groups

-- how many rows have the role
abbrev pub rows_with : List ℕ → List Fields → ℕ
rows_with role rows = count_by (bytes_eq role) (map role_of rows)

-- how often the row stands
abbrev pub times : Fields → List Fields → ℕ
times one rows = count_by (same one) rows

-- the user has a group
abbrev pub has_user : List ℕ → List Group → Bool
has_user user groups = list_any (λ (group : Group). bytes_eq user group.user) groups

-- the rows after each of these users was given the roles of its group in place of those that it had
abbrev pub after : List Group → List Fields → List Fields
after changed rows = filter (λ (one : Fields). not (has_user (user_of one) changed)) rows ++ rows_of changed
