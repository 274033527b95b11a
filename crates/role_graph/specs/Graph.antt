-- What contracts see of a role graph.
use Rattle.std.specs.Prelude.{◌≡◌, ◌≤◌, ◌+◌, ◌||◌, ℕ, length, map, false, List, None}
use Rattle.std.specs.List.{IsDistinct, count_by, list_any}
use Rattle.std.specs.Str.{bytes_eq}
use Rattle.perm_base.specs.LineEnds.{has_line_end}
use Rattle.perm_base.specs.Patterns.{is_pattern}
use Rattle.perm_base.specs.declared.shapes.Fit.{Fit}
use Rattle.perm_base.specs.declared.shapes.Fit.TheVariants.{Exact}
use Rattle.perm_base.specs.declared.shapes.RoleShape.{RoleShape}
use Rattle.policy_table.specs.Limits.{different}
use Rattle.policy_table.specs.Tables.{Fields}
use Rattle.role_graph.specs.Groups.{Group, after, rows_with}
use Rattle.role_meaning.specs.Distances.{IsFar}
use Rattle.role_meaning.specs.Links.{Reaches, role_of, user_of}

-- the rows in an order of the graph's own, how names are compared with users, the hierarchy limit, and for how many further users
-- and roles there is room
pub record Graph : Type 0 where
  pub rows : List Fields
  pub names : Fit
  pub limit : ℕ
  pub spare : ℕ
  pub spare_roles : ℕ

-- the greatest number of rows
abbrev pub most_rows : ℕ
most_rows = 200000

-- how many different roles the rows have
abbrev pub role_count : List Fields → ℕ
role_count rows = length (different (map role_of rows))

-- how many rows have the name as their user, or a pattern
abbrev pub asked_rows : Fit → List ℕ → List Fields → ℕ
asked_rows names x rows = count_by (λ (one : Fields). bytes_eq x (user_of one) || is_pattern names (user_of one)) rows

-- an edit: the users whose rows change, with all their roles afterwards, and the roles of the rows that come and that go
pub record Edit : Type 0 where
  pub changed : List Group
  pub added : List (List ℕ)
  pub removed : List (List ℕ)

-- the edit can be made in the graph as it stands: no user is named twice, there is room, there are no more rows than may be
-- afterwards, and the roles that come and go are those of the rows and hold no line end
pub record IsPreparedFor (graph : Graph) (edit : Edit) : Type 0 where
  pub once : IsDistinct bytes_eq (map (λ (group : Group). group.user) edit.changed)
  pub room : length edit.changed ≤ graph.spare
  pub room_of_roles : length edit.added ≤ graph.spare_roles
  pub few : length (after edit.changed graph.rows) ≤ most_rows
  pub long : length (after edit.changed graph.rows) + length edit.removed ≡ length graph.rows + length edit.added
  pub whole_lines : list_any has_line_end edit.added ≡ false
  pub roles : (role : List ℕ)
      → rows_with role (after edit.changed graph.rows) + count_by (bytes_eq role) edit.removed ≡ rows_with role graph.rows + count_by (bytes_eq role) edit.added

-- the shape of a relation without domains
abbrev pub shape_of : Fit → RoleShape
shape_of names = record { number = 1; with_domain = false; names = names; domains = Exact }

-- the one name reaches the other by at most so many links of the graph
abbrev pub GraphReaches : Graph → ℕ → List ℕ → List ℕ → Type 0
GraphReaches graph links x y = Reaches (shape_of graph.names) graph.rows None links x y

-- how far the one name is from the other
abbrev pub IsGraphFar : Graph → List ℕ → List ℕ → ℕ → Type 0
IsGraphFar graph x y distance = IsFar (shape_of graph.names) graph.rows None x y distance
