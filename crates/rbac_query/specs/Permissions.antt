-- The rules of p that count for a name (Casbin, RBAC API: GetImplicitPermissionsForUser).
use Rattle.std.specs.Prelude.{◌≡◌, ◌↔◌, ⊤, ℕ, Bool, IsTrue, List, [], filter, Option, Some, None, codes, get_or}
use Rattle.std.specs.List.{Contains}
use Rattle.perm_base.specs.declared.shapes.RoleShape.{RoleShape}
use Rattle.perm_base.specs.declared.shapes.Shapes.{Shapes}
use Rattle.perm_base.specs.declared.shapes.TableId.TheVariants.{P}
use Rattle.model_conf.specs.ModelText.{ModelParts}
use Rattle.model_conf.specs.Shapes.{place_of}
use Rattle.policy_table.specs.Tables.{Fields, Policy, rows}
use Rattle.role_meaning.specs.Links.{IsLinked}
use Rattle.rbac_query.specs.Asked.{OfRelation, hierarchy}

-- the column of p that is named `dom`
abbrev pub domain_column : ModelParts → Option ℕ
domain_column model = place_of model.policy (codes "dom")

-- the rule has this domain in that column, where a domain is asked for and there is such a column
abbrev pub IsOf : Option ℕ → Option (List ℕ) → Fields → Type 0
IsOf (Some column) (Some domain) rule = get_or rule column [] ≡ domain
IsOf (Some column) None rule = ⊤
IsOf None domain rule = ⊤

-- the rule counts for the name: the name is linked to its subject, and it is of the domain
pub record IsPermission (shapes : Shapes) (column : Option ℕ) (shape : RoleShape) (links : List Fields) (domain : Option (List ℕ)) (name : List ℕ) (rule : Fields) : Type 0 where
  pub linked : IsLinked shape links shapes.limit domain name (get_or rule shapes.subject_column [])
  pub within : IsOf column domain rule

-- the rules of which this holds, in their order
pub record AreThose (Holds : Fields → Type 0) (rules those : List Fields) : Type 0 where
  pub test : Fields → Bool
  pub told : (rule : Fields) → Contains rules rule → IsTrue (test rule) ↔ Holds rule
  pub kept : those ≡ filter test rules

-- the rules of p that count for the name in the domain, in their order
abbrev pub AreImplicitPermissions : ModelParts → Shapes → Policy → Option (List ℕ) → List ℕ → List Fields → Type 0
AreImplicitPermissions model shapes policy domain name rules =
    OfRelation shapes policy hierarchy (λ shape links. AreThose (IsPermission shapes (domain_column model) shape links domain name) (rows policy P) rules)
