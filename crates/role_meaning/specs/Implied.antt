-- The roles that a name has by links (Casbin, implicit roles).
use Rattle.std.specs.Prelude.{◌≡◌, ◌≢◌, ◌<◌, ◌⊎◌, ◌↔◌, ℕ, List, map, Option, AllPairs}
use Rattle.std.specs.List.{Contains}
use Rattle.std.specs.Cmp.Lexicographic.{slice_cmp}
use Rattle.std.specs.Ordering.{nat_cmp}
use Rattle.std.specs.declared.cmp.Ordering.TheVariants.{Less}
use Rattle.perm_base.specs.declared.shapes.RoleShape.{RoleShape}
use Rattle.policy_table.specs.Tables.{Fields}
use Rattle.role_meaning.specs.Distances.{IsFar}
use Rattle.role_meaning.specs.Links.{IsLinked, role_of}

-- another name, to which the name is linked and which stands as a role in some row
pub record IsImplied (shape : RoleShape) (rows : List Fields) (limit : ℕ) (domain : Option (List ℕ)) (x y : List ℕ) : Type 0 where
  pub other : y ≢ x
  pub linked : IsLinked shape rows limit domain x y
  pub role : Contains (map role_of rows) y

-- the one name is nearer than the other, or as near and before it by bytes
pub record IsNearer (shape : RoleShape) (rows : List Fields) (domain : Option (List ℕ)) (x y z : List ℕ) : Type 0 where
  pub near : ℕ
  pub far : ℕ
  pub to_one : IsFar shape rows domain x y near
  pub to_other : IsFar shape rows domain x z far
  pub before : (near < far) ⊎ ((near ≡ far) × (slice_cmp nat_cmp y z ≡ Less))

-- each implied role once and nothing else, the nearer first, those of one distance by bytes
pub record AreImplied (shape : RoleShape) (rows : List Fields) (limit : ℕ) (domain : Option (List ℕ)) (x : List ℕ) (names : List (List ℕ)) : Type 0 where
  pub members : (y : List ℕ) → Contains names y ↔ IsImplied shape rows limit domain x y
  pub order : AllPairs (IsNearer shape rows domain x) names
