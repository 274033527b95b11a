-- Distances by way of roles that a name has.
use Rattle.std.specs.Prelude.{◌≡◌, ◌<◌, ◌↔◌, ℕ, zero, suc, Bool, List, None, length}
use Rattle.std.specs.List.{Contains, IsDistinct}
use Rattle.std.specs.Str.{bytes_eq}
use Rattle.role_meaning.specs.Links.{Reaches}
use Rattle.role_graph.specs.Graph.{shape_of}
use Rattle.role_graph.specs.Groups.{rows_of}
use Rattle.role_graph.specs.Helps.Squares.{IsMarked, name_at}
use Rattle.role_graph.specs.Helps.Walks.{FitsAt, IsRoleAt, Linked}

-- by a link to the role, and on from there by the others
abbrev pub ReachesBy : Linked → List ℕ → List ℕ → ℕ → Type 0
ReachesBy linked role y zero = ⊥
ReachesBy linked role y (suc links) = Reaches (shape_of linked.names) (rows_of linked.groups) None links role y

-- by way of one of the roles
pub record ReachesBySome (linked : Linked) (roles : List (List ℕ)) (y : List ℕ) (links : ℕ) : Type 0 where
  pub role : List ℕ
  pub stands : Contains roles role
  pub reaches : ReachesBy linked role y links

-- by way of a role of one of the groups before a place that the name fits
pub record ReachesByGroup (linked : Linked) (x y : List ℕ) (upto links : ℕ) : Type 0 where
  pub at : ℕ
  pub before : at < upto
  pub fits : FitsAt linked x at
  pub role : List ℕ
  pub stands : IsRoleAt linked role at
  pub reaches : ReachesBy linked role y links

-- the nodes of the roles that the name reaches by at most so many links are marked
pub record AreWithin (linked : Linked) (names : List (List ℕ)) (x : List ℕ) (most : ℕ) (marks : List Bool) : Type 0 where
  pub each : (a : ℕ) → a < length names → IsMarked marks a ↔ Reaches (shape_of linked.names) (rows_of linked.groups) None most x (name_at names a)

-- a node of this name before a place is reached and was not seen before
pub record IsPicked (names : List (List ℕ)) (reached seen : List Bool) (upto : ℕ) (y : List ℕ) : Type 0 where
  pub node : ℕ
  pub before : node < upto
  pub is : name_at names node ≡ y
  pub now : IsMarked reached node
  pub new : ¬ IsMarked seen node

-- the names of these nodes, each once
pub record ArePicked (names : List (List ℕ)) (reached seen : List Bool) (upto : ℕ) (fresh : List (List ℕ)) : Type 0 where
  pub each : (y : List ℕ) → Contains fresh y ↔ IsPicked names reached seen upto y
  pub once : IsDistinct bytes_eq fresh
