-- What a name reaches, as marks of roles, each at the place of its node.
use Rattle.std.specs.Prelude.{◌≢◌, ◌⊎◌, ◌<◌, ◌≤◌, ◌↔◌, ℕ, List, None, length}
use Rattle.role_graph.specs.Graph.{shape_of}
use Rattle.role_graph.specs.Groups.{rows_of}
use Rattle.role_graph.specs.Helps.Marks.{IsSet}
use Rattle.role_graph.specs.Helps.Squares.{AreNodes, name_at}
use Rattle.role_graph.specs.Helps.Walks.{IsRoleAt, Linked}
use Rattle.role_meaning.specs.Links.{Reaches}

-- the name is a role of one of these groups
pub record HasRoleIn (linked : Linked) (Groups : ℕ → Type 0) (y : List ℕ) : Type 0 where
  pub at : ℕ
  pub there : Groups at
  pub stands : IsRoleAt linked y at

-- what is marked was marked before, or is of these
abbrev pub SetsAlso : (ℕ → Type 0) → List ℕ → List ℕ → ℕ → Type 0
SetsAlso Holds old new a = IsSet new a ↔ (IsSet old a ⊎ Holds a)

-- of the roles other than the name, those are marked that it reaches by at most so many links
pub record IsReach (linked : Linked) (names : List (List ℕ)) (most : ℕ) (x : List ℕ) (marks : List ℕ) : Type 0 where
  pub nodes : AreNodes linked names
  pub few : length names ≤ 200000
  pub each : (a : ℕ) → a < length names → name_at names a ≢ x → IsSet marks a ↔ Reaches (shape_of linked.names) (rows_of linked.groups) None most x (name_at names a)
