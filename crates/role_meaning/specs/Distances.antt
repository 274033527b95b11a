-- How far two names are from each other.
use Rattle.std.specs.Prelude.{ℕ, List, Option}
use Rattle.perm_base.specs.declared.shapes.RoleShape.{RoleShape}
use Rattle.policy_table.specs.Tables.{Fields}
use Rattle.role_meaning.specs.Least.{IsLeast}
use Rattle.role_meaning.specs.Links.{Reaches}

-- the greatest number of links that is told; a greater one, or none at all, is told as 255
abbrev pub farthest : ℕ
farthest = 254

-- the least number of links by which the one name reaches the other
abbrev pub IsFar : RoleShape → List Fields → Option (List ℕ) → List ℕ → List ℕ → ℕ → Type 0
IsFar shape rows domain x y distance = IsLeast farthest (λ links. Reaches shape rows domain links x y) distance
