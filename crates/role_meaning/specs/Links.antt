-- Links of a role relation: a row (user, role) or (user, role, domain) links each name that fits its user to its role, in each
-- domain that fits its domain (Casbin, RBAC with domains).
use Rattle.std.specs.Prelude.{◌≡◌, ◌⊎◌, ℕ, zero, suc, List, [], Option, Some, None, get_or, ⊤}
use Rattle.std.specs.List.{Contains}
use Rattle.perm_base.specs.declared.shapes.RoleShape.{RoleShape}
use Rattle.policy_table.specs.Tables.{Fields}
use Rattle.role_meaning.specs.Fits.{Fits}

abbrev pub user_of : Fields → List ℕ
user_of row = get_or row 0 []

abbrev pub role_of : Fields → List ℕ
role_of row = get_or row 1 []

abbrev pub domain_of : Fields → List ℕ
domain_of row = get_or row 2 []

-- the row counts in the domain; where none is asked for, every row counts
abbrev pub CountsIn : RoleShape → Option (List ℕ) → Fields → Type 0
CountsIn shape None row = ⊤
CountsIn shape (Some domain) row = Fits shape.domains domain (domain_of row)

-- some row is a link of the name in the domain, and this holds of its role
pub record SomeLink (shape : RoleShape) (rows : List Fields) (domain : Option (List ℕ)) (name : List ℕ) (Holds : List ℕ → Type 0) : Type 0 where
  pub row : Fields
  pub stands : Contains rows row
  pub fits : Fits shape.names name (user_of row)
  pub counts : CountsIn shape domain row
  pub holds : Holds (role_of row)

-- the one name reaches the other by at most so many links
unfoldable pub Reaches : RoleShape → List Fields → Option (List ℕ) → ℕ → List ℕ → List ℕ → Type 0
Reaches shape rows domain zero x y = x ≡ y
Reaches shape rows domain (suc links) x y = (x ≡ y) ⊎ SomeLink shape rows domain x (λ role. Reaches shape rows domain links role y)

-- the name has the role, where the hierarchy limit is the greatest number of links
abbrev pub IsLinked : RoleShape → List Fields → ℕ → Option (List ℕ) → List ℕ → List ℕ → Type 0
IsLinked shape rows limit domain x y = Reaches shape rows domain limit x y

-- the name fits the user of a row that counts in the domain
abbrev pub HasRoles : RoleShape → List Fields → Option (List ℕ) → List ℕ → Type 0
HasRoles shape rows domain name = SomeLink shape rows domain name (λ role. ⊤)
