-- How deep a subject stands under names without roles, and the order by depth (Casbin, subject priority).
use Rattle.std.specs.Prelude.{◌≡◌, ◌⊎◌, ◌<◌, ◌↔◌, ℕ, suc, List, [], ◌∷◌, map, nat_lt, length, get_or, AllPairs, Option, if◌then◌else◌}
use Rattle.std.specs.List.{Contains}
use Rattle.perm_base.specs.declared.shapes.RoleShape.{RoleShape}
use Rattle.policy_table.specs.Tables.{Fields}
use Rattle.role_meaning.specs.Least.{IsLeast}
use Rattle.role_meaning.specs.Links.{HasRoles, Reaches}

-- the name reaches one that has no roles by at most so many links
pub record ReachesTop (shape : RoleShape) (rows : List Fields) (domain : Option (List ℕ)) (links : ℕ) (name : List ℕ) : Type 0 where
  pub top : List ℕ
  pub reaches : Reaches shape rows domain links name top
  pub ends : ¬ HasRoles shape rows domain top

-- the least number of links by which the name reaches one that has no roles; one more than the hierarchy limit where there is none
abbrev pub IsDepth : RoleShape → List Fields → ℕ → Option (List ℕ) → List ℕ → ℕ → Type 0
IsDepth shape rows limit domain name depth = IsLeast limit (λ links. ReachesTop shape rows domain links name) depth

-- the place of a row, and the depth of its subject
pub record Ranked : Type 0 where
  pub place : ℕ
  pub depth : ℕ

-- one more, before the first that is not deeper
abbrev pub put_by_depth : Ranked → List Ranked → List Ranked
put_by_depth one [] = one ∷ []
put_by_depth one (other ∷ others) = if nat_lt one.depth other.depth then other ∷ put_by_depth one others else one ∷ other ∷ others

-- rows of these depths, the first of which has this place: the deeper first, and of one depth the earlier first
abbrev pub ranked_from : ℕ → List ℕ → List Ranked
ranked_from place [] = []
ranked_from place (depth ∷ depths) = put_by_depth (record { place = place; depth = depth }) (ranked_from (suc place) depths)

-- the places of rows by falling depth, those of one depth in their order
abbrev pub by_depth : List ℕ → List ℕ
by_depth depths = map (λ (one : Ranked). one.place) (ranked_from 0 depths)

-- each place once, the deeper before the less deep, and of one depth the earlier before the later
pub record IsOrderByDepth (depths places : List ℕ) : Type 0 where
  pub each : (place : ℕ) → Contains places place ↔ (place < length depths)
  pub order : AllPairs (λ (one other : ℕ). (get_or depths other 0 < get_or depths one 0) ⊎ ((get_or depths one 0 ≡ get_or depths other 0) × (one < other))) places
