-- Groups as they are kept: by different users, each with some role.
use Rattle.std.specs.Prelude.{◌≡◌, ◌<◌, ◌≤◌, ◌+◌, true, false, ℕ, List, [], ◌∷◌, ◌++◌, map, length, All, if◌then◌else◌}
use Rattle.std.specs.List.{IsDistinct}
use Rattle.std.specs.Str.{bytes_eq}
use Rattle.perm_base.specs.Patterns.{is_pattern}
use Rattle.perm_base.specs.declared.shapes.Fit.{Fit}
use Rattle.role_graph.specs.Groups.{Group, rows_of, rows_with}
use Rattle.role_graph.specs.Helps.Roles.{Counted, count_of, nodes_of}
use Rattle.role_graph.specs.Helps.Squares.{AreNodes, IsExact}
use Rattle.role_graph.specs.Helps.UserRoles.{Texts}
use Rattle.role_graph.specs.Helps.Walks.{Linked}

-- the groups, and for how many further ones there is room
pub record Kept : Type 0 where
  pub groups : List Group
  pub spare : ℕ

abbrev pub users_of : List Group → List (List ℕ)
users_of groups = map (λ (group : Group). group.user) groups

-- an entry of the map as a group
abbrev pub group_of : List ℕ × Texts → Group
group_of entry = record { user = entry.0; roles = entry.1.items }

-- the users differ
abbrev pub AreApart : List Group → Type 0
AreApart groups = IsDistinct bytes_eq (users_of groups)

-- the users differ, and each has some role
pub record AreKept (groups : List Group) : Type 0 where
  pub once : AreApart groups
  pub some : All (λ (group : Group). 0 < length group.roles) groups

-- the roles of the user's rows
abbrev pub roles_under : List ℕ → List Group → List (List ℕ)
roles_under user [] = []
roles_under user (group ∷ groups) = if bytes_eq user group.user then group.roles else roles_under user groups

-- no user of the first groups is a pattern, each of the others is one, and there are not too many
pub record AreLinks (names : Fit) (plain patterned : List Group) : Type 0 where
  pub texts : All (λ (group : Group). is_pattern names group.user ≡ false) plain
  pub patterns : All (λ (group : Group). is_pattern names group.user ≡ true) patterned
  pub few : length plain + length patterned ≤ 200000
  pub kept_texts : AreKept plain
  pub kept_patterns : AreKept patterned

-- the groups whose users are no patterns, those whose users are, and how names are compared with users
pub record Parts : Type 0 where
  pub plain : Kept
  pub patterned : Kept
  pub names : Fit

-- all groups
abbrev pub linked_of : Parts → Linked
linked_of parts = record { groups = parts.plain.groups ++ parts.patterned.groups; names = parts.names }

-- the roles of the user's rows, in the part that it belongs to
abbrev pub roles_in : Parts → List ℕ → List (List ℕ)
roles_in parts user = if is_pattern parts.names user then roles_under user parts.patterned.groups else roles_under user parts.plain.groups

-- each part has room for so many further groups
pub record HasRoom (count : ℕ) (parts : Parts) : Type 0 where
  pub plain : count ≤ parts.plain.spare
  pub patterned : count ≤ parts.patterned.spare

-- what a graph keeps: sound groups, no more rows than may be, a limit of its range, how many rows have each role, how many rows
-- there are, the roles as nodes, and the distances between these, where any are kept
pub record IsSound (parts : Parts) (limit : ℕ) (roles : Counted) (count : ℕ) (cells : List (List ℕ)) : Type 0 where
  pub links : AreLinks parts.names parts.plain.groups parts.patterned.groups
  pub few : length (rows_of (linked_of parts).groups) ≤ 200000
  pub some : 1 ≤ limit
  pub limited : limit ≤ 250
  pub counted : (role : List ℕ) → count_of roles role ≡ rows_with role (rows_of (linked_of parts).groups)
  pub number : count ≡ length (rows_of (linked_of parts).groups)
  pub nodes : AreNodes (linked_of parts) (nodes_of roles)
  pub exact : 0 < length cells → IsExact (linked_of parts) (nodes_of roles) cells
