-- What is asked of one relation of a policy: the roles and the users of a name by links (Casbin, RBAC API:
-- GetImplicitRolesForUser, GetImplicitUsersForRole).
use Rattle.std.specs.Prelude.{◌≡◌, ◌⊎◌, ℕ, List, Option, Some, None, Result, Ok, Err}
use Rattle.perm_base.specs.RoleShapes.{shape_of}
use Rattle.perm_base.specs.declared.shapes.RoleShape.{RoleShape}
use Rattle.perm_base.specs.declared.shapes.Shapes.{Shapes}
use Rattle.perm_base.specs.declared.shapes.TableId.TheVariants.{G}
use Rattle.policy_query.specs.declared.refused.QueryRefused.{QueryRefused}
use Rattle.policy_query.specs.declared.refused.QueryRefused.TheVariants.{NoMemory}
use Rattle.policy_table.specs.Tables.{Fields, Policy, rows}
use Rattle.role_meaning.specs.Implied.{AreImplied}
use Rattle.role_meaning.specs.ImpliedUsers.{AreImpliedUsers}

-- the number of the relation g
abbrev pub hierarchy : ℕ
hierarchy = 1

-- a value of which this holds, where nothing is refused, and the refusal otherwise; want of memory may come at any time
abbrev pub IsAnswered : {T : Type 0} → Option QueryRefused → (T → Type 0) → Result T QueryRefused → Type 0
IsAnswered refusal Holds (Ok value) = (refusal ≡ None) × Holds value
IsAnswered refusal Holds (Err refused) = (refused ≡ NoMemory) ⊎ (refusal ≡ Some refused)

-- the relation is there, and this holds of its shape and its rows
pub record OfRelation (shapes : Shapes) (policy : Policy) (relation : ℕ) (Holds : RoleShape → List Fields → Type 0) : Type 0 where
  pub shape : RoleShape
  pub there : shape_of shapes.roles relation ≡ Some shape
  pub holds : Holds shape (rows policy (G relation))

-- the roles that the name has in the domain by links, the nearer first, those of one distance by bytes
abbrev pub AreImplicitRoles : Shapes → Policy → ℕ → Option (List ℕ) → List ℕ → List (List ℕ) → Type 0
AreImplicitRoles shapes policy relation domain name names = OfRelation shapes policy relation (λ shape rules. AreImplied shape rules shapes.limit domain name names)

-- the users that have the role in the domain by links, by bytes
abbrev pub AreImplicitUsers : Shapes → Policy → ℕ → Option (List ℕ) → List ℕ → List (List ℕ) → Type 0
AreImplicitUsers shapes policy relation domain name names = OfRelation shapes policy relation (λ shape rules. AreImpliedUsers shape rules shapes.limit domain name names)
