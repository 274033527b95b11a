-- The users that have a role by links (Casbin, implicit users).
use Rattle.std.specs.Prelude.{◌≡◌, ◌≢◌, ◌↔◌, false, ℕ, List, map, Option, AllPairs}
use Rattle.std.specs.List.{Contains}
use Rattle.std.specs.Cmp.Lexicographic.{slice_cmp}
use Rattle.std.specs.Ordering.{nat_cmp}
use Rattle.std.specs.declared.cmp.Ordering.TheVariants.{Less}
use Rattle.perm_base.specs.Patterns.{is_pattern}
use Rattle.perm_base.specs.declared.shapes.RoleShape.{RoleShape}
use Rattle.policy_table.specs.Tables.{Fields}
use Rattle.role_meaning.specs.Links.{IsLinked, user_of}

-- one of these users, which is another name and no pattern, and is linked to the name
pub record IsUserOf (shape : RoleShape) (rows : List Fields) (limit : ℕ) (domain : Option (List ℕ)) (users : List (List ℕ)) (x y : List ℕ) : Type 0 where
  pub user : Contains users y
  pub other : y ≢ x
  pub plain : is_pattern shape.names y ≡ false
  pub linked : IsLinked shape rows limit domain y x

-- each of these once and nothing else, by bytes
pub record AreUsersOf (shape : RoleShape) (rows : List Fields) (limit : ℕ) (domain : Option (List ℕ)) (users : List (List ℕ)) (x : List ℕ) (names : List (List ℕ)) : Type 0 where
  pub members : (y : List ℕ) → Contains names y ↔ IsUserOf shape rows limit domain users x y
  pub order : AllPairs (λ (y z : List ℕ). slice_cmp nat_cmp y z ≡ Less) names

-- the implied users: those among the users of all rows
abbrev pub AreImpliedUsers : RoleShape → List Fields → ℕ → Option (List ℕ) → List ℕ → List (List ℕ) → Type 0
AreImpliedUsers shape rows limit domain x names = AreUsersOf shape rows limit domain (map user_of rows) x names
