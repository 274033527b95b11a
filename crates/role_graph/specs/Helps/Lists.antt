-- Groups that a walk lists, in the order in which it comes to them.
use Rattle.std.specs.Prelude.{◌≡◌, ◌++◌, ◌<◌, ◌≤◌, ℕ, List, get_or}
use Rattle.std.specs.List.{Contains}
use Rattle.role_graph.specs.Helps.Walks.{FitsAt, IsRoleAt, IsSought, Linked}
use Rattle.role_graph.specs.declared.walk.Sought.{Sought}

-- all that is wanted stands in the list, and what was added to it is allowed
pub record Lists (Wanted Allowed : ℕ → Type 0) (old new : List ℕ) : Type 0 where
  pub added : List ℕ
  pub is : new ≡ old ++ added
  pub sound : (at : ℕ) → Contains added at → Allowed at
  pub whole : (at : ℕ) → Wanted at → Contains new at

-- some of the names fits the user of the group at the place
abbrev pub FitsSome : Linked → List (List ℕ) → ℕ → Type 0
FitsSome linked names at = (name : List ℕ) × Contains names name × FitsAt linked name at

-- a role of one of the listed groups, from a place of the list to another, fits the user of the group at this place
pub record GoesOnFrom (linked : Linked) (listed : List ℕ) (from upto at : ℕ) : Type 0 where
  pub index : ℕ
  pub behind : from ≤ index
  pub before : index < upto
  pub role : List ℕ
  pub stands : IsRoleAt linked role (get_or listed index 0)
  pub fits : FitsAt linked role at

-- a role of one of the listed groups, from a place of the list on, is sought
pub record HasSoughtFrom (linked : Linked) (sought : Sought) (listed : List ℕ) (from upto : ℕ) : Type 0 where
  pub index : ℕ
  pub behind : from ≤ index
  pub before : index < upto
  pub role : List ℕ
  pub stands : IsRoleAt linked role (get_or listed index 0)
  pub is : IsSought linked sought role
