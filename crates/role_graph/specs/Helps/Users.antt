-- Users that have a role by links, found from the role back.
use Rattle.std.specs.Prelude.{◌≡◌, ◌⊎◌, ◌↔◌, false, ℕ, Bool, List}
use Rattle.std.specs.List.{Contains}
use Rattle.perm_base.specs.LineEnds.{has_line_end}
use Rattle.perm_base.specs.Patterns.{is_pattern}
use Rattle.role_graph.specs.Helps.Distances.{ReachesBy}
use Rattle.role_graph.specs.Helps.Marks.{IsSet}
use Rattle.role_graph.specs.Helps.Names.{Adds}
use Rattle.role_graph.specs.Helps.Walks.{FitsAt, IsRoleAt, Linked}

-- a role of the group leads to the name by fewer links
pub record Leads (linked : Linked) (x : List ℕ) (links at : ℕ) : Type 0 where
  pub role : List ℕ
  pub stands : IsRoleAt linked role at
  pub reaches : ReachesBy linked role x links

-- the groups that lead to the name by at most so many links, the first among them, are marked
abbrev pub AreLeading : Linked → List ℕ → ℕ → List ℕ → Type 0
AreLeading linked x links marks = (at : ℕ) → IsSet marks at ↔ Leads linked x links at

-- the name fits the user of a marked group
pub record FitsMarked (linked : Linked) (marks : List ℕ) (name : List ℕ) : Type 0 where
  pub at : ℕ
  pub fits : FitsAt linked name at
  pub marked : IsSet marks at

-- the role is the name, or fits the user of a marked group
abbrev pub IsOnWay : Linked → List ℕ → List ℕ → List ℕ → Type 0
IsOnWay linked x marks role = (role ≡ x) ⊎ FitsMarked linked marks role

-- a role of the group is on the way
pub record GoesBack (linked : Linked) (x marks : List ℕ) (at : ℕ) : Type 0 where
  pub role : List ℕ
  pub stands : IsRoleAt linked role at
  pub way : IsOnWay linked x marks role

-- those of the names were added that are no patterns, fit the user of a marked group, are not `x` and were not seen before, each once
pub record Chooses (linked : Linked) (x marks : List ℕ) (names : List (List ℕ)) (before after : List ℕ → Bool) (old new : List (List ℕ)) : Type 0 where
  pub chosen : List (List ℕ)
  pub adds : Adds x chosen before after old new
  pub sound : (y : List ℕ) → Contains chosen y → Contains names y × (is_pattern linked.names y ≡ false) × (has_line_end y ≡ false) × FitsMarked linked marks y
  pub whole : (y : List ℕ) → Contains names y → is_pattern linked.names y ≡ false → FitsMarked linked marks y → Contains chosen y
