-- Walks over groups, level by level.
use Rattle.std.specs.Prelude.{◌≡◌, ◌⊎◌, ◌<◌, ◌≤◌, ℕ, suc, List, [], length, get_or, Option, None, Some}
use Rattle.std.specs.List.{Contains}
use Rattle.perm_base.specs.declared.shapes.Fit.{Fit}
use Rattle.role_meaning.specs.Fits.{Fits}
use Rattle.role_meaning.specs.Least.{IsLeast}
use Rattle.role_meaning.specs.Links.{Reaches}
use Rattle.role_graph.specs.Graph.{shape_of}
use Rattle.role_graph.specs.Groups.{Group, rows_of}
use Rattle.role_graph.specs.Helps.Marks.{IsSet}
use Rattle.role_graph.specs.declared.walk.Sought.{Sought}
use Rattle.role_graph.specs.declared.walk.Sought.TheVariants.{Name, Top}

-- the groups of a graph, and how names are compared with users
pub record Linked : Type 0 where
  pub groups : List Group
  pub names : Fit

abbrev pub no_group : Group
no_group = record { user = []; roles = [] }

-- the name fits the user of the group at a place
pub record FitsAt (linked : Linked) (name : List ℕ) (at : ℕ) : Type 0 where
  pub within : at < length linked.groups
  pub fits : Fits linked.names name (get_or linked.groups at no_group).user

-- the name is the role of a row of the group at a place
pub record IsRoleAt (linked : Linked) (name : List ℕ) (at : ℕ) : Type 0 where
  pub within : at < length linked.groups
  pub stands : Contains (get_or linked.groups at no_group).roles name

-- the names that fit the group's user are reached from the name by at most so many links
pub record IsEntered (linked : Linked) (x : List ℕ) (links at : ℕ) : Type 0 where
  pub name : List ℕ
  pub reached : Reaches (shape_of linked.names) (rows_of linked.groups) None links x name
  pub fits : FitsAt linked name at

-- the groups that are entered by at most so many links are marked, and among them at least those that are by no fewer are new
pub record AreReached (linked : Linked) (x : List ℕ) (links : ℕ) (all new : List ℕ) : Type 0 where
  pub sound : (at : ℕ) → IsSet all at → IsEntered linked x links at
  pub whole : (at : ℕ) → IsEntered linked x links at → IsSet all at
  pub reached : (at : ℕ) → IsSet new at → IsSet all at
  pub old : (at : ℕ) → IsSet all at → IsSet new at ⊎ ((fewer : ℕ) × (suc fewer ≡ links) × IsEntered linked x fewer at)

-- the least number of links up to `most`, where there is one
abbrev pub IsDistance : Linked → List ℕ → List ℕ → ℕ → Option ℕ → Type 0
IsDistance linked x y most None = ¬ Reaches (shape_of linked.names) (rows_of linked.groups) None most x y
IsDistance linked x y most (Some found) =
    (found ≤ most) × IsLeast most (λ (links : ℕ). Reaches (shape_of linked.names) (rows_of linked.groups) None links x y) found

-- a role of one of the groups fits the user of the group at this place
pub record GoesOn (linked : Linked) (from : List ℕ) (at : ℕ) : Type 0 where
  pub place : ℕ
  pub role : List ℕ
  pub marked : IsSet from place
  pub stands : IsRoleAt linked role place
  pub fits : FitsAt linked role at

-- a row of the graph links the one name to the other
pub record IsLink (linked : Linked) (name role : List ℕ) : Type 0 where
  pub at : ℕ
  pub fits : FitsAt linked name at
  pub stands : IsRoleAt linked role at

-- ---- what a walk looks for

-- the name is the one that is sought; or any name without roles is sought, and it fits no user
abbrev pub IsSought : Linked → Sought → List ℕ → Type 0
IsSought linked (Name sought) name = name ≡ sought.now
IsSought linked Top name = (at : ℕ) → FitsAt linked name at → ⊥

-- a name that is sought is reached by at most so many links
pub record ReachesSought (linked : Linked) (sought : Sought) (links : ℕ) (x : List ℕ) : Type 0 where
  pub name : List ℕ
  pub is : IsSought linked sought name
  pub reaches : Reaches (shape_of linked.names) (rows_of linked.groups) None links x name

-- the least number of links up to `most` to a name that is sought, where there is one
abbrev pub IsFirst : Linked → Sought → List ℕ → ℕ → Option ℕ → Type 0
IsFirst linked sought x most None = ¬ ReachesSought linked sought most x
IsFirst linked sought x most (Some found) = (found ≤ most) × IsLeast most (λ (links : ℕ). ReachesSought linked sought links x) found

-- one of these groups has a role that is sought
pub record HasSought (linked : Linked) (sought : Sought) (Groups : ℕ → Type 0) : Type 0 where
  pub at : ℕ
  pub marked : Groups at
  pub role : List ℕ
  pub stands : IsRoleAt linked role at
  pub is : IsSought linked sought role
