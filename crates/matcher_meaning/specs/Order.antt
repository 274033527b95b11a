-- The order in which the rows of p are judged: that of the table, and in a model with the priority of subjects the deeper subjects first (Casbin, priority by the hierarchy of subjects).
use Rattle.std.specs.Prelude.{◌≡◌, ℕ, suc, List, [], ◌∷◌, map, codes, get_or, Option, Some, None, if◌then◌else◌}
use Rattle.std.specs.List.{AllZip}
use Rattle.effect_fold.specs.declared.effect.Effect.{Effect}
use Rattle.effect_fold.specs.declared.effect.Effect.TheVariants as effect
use Rattle.perm_base.specs.RoleShapes.{shape_of}
use Rattle.perm_base.specs.declared.shapes.RoleShape.{RoleShape}
use Rattle.perm_base.specs.declared.shapes.TableId.TheVariants.{G}
use Rattle.policy_table.specs.Tables.{Fields, rows}
use Rattle.role_meaning.specs.Depths.{IsDepth, by_depth}
use Rattle.matcher_meaning.specs.Cases.{Case, field_of}

-- a row of p and its number, which is its place in the table, counted from 1
pub record Numbered : Type 0 where
  pub number : ℕ
  pub fields : Fields

-- these fields under this number
abbrev pub numbered : ℕ → Fields → Numbered
numbered number fields = record { number = number; fields = fields }

-- the rows, of which the first has this number
abbrev pub numbered_from : ℕ → List Fields → List Numbered
numbered_from number [] = []
numbered_from number (fields ∷ others) = numbered number fields ∷ numbered_from (suc number) others

-- those at these places, counted from 0, in the order of the places
abbrev pub in_order_of : List ℕ → List Numbered → List Numbered
in_order_of places table = map (λ (place : ℕ). get_or table place (numbered (suc place) [])) places

-- the domain of a row of p: where the relation has domains, its field in the column `dom`
abbrev pub domain_of_row : Case → RoleShape → Fields → Option (List ℕ)
domain_of_row case shape fields = if shape.with_domain then Some (field_of case.model.policy (Some fields) (codes "dom")) else None

-- the depth of a row of p: that of its subject among the rows of the relation g in the row's domain; 0 where there is no such relation
abbrev pub IsDepthBy : Case → Option RoleShape → Fields → ℕ → Type 0
IsDepthBy case (Some shape) fields depth = IsDepth shape (rows case.policy (G 1)) case.shapes.limit (domain_of_row case shape fields) (get_or fields case.shapes.subject_column []) depth
IsDepthBy case None fields depth = depth ≡ 0

-- the depths of rows of p
abbrev pub AreDepths : Case → List Fields → List ℕ → Type 0
AreDepths case table depths = AllZip (IsDepthBy case (shape_of case.shapes.roles 1)) table depths

-- the rows of p in the order in which they are judged under the effect
abbrev pub AreInOrder : Case → Effect → List Fields → List Numbered → Type 0
AreInOrder case effect.SubjectPriority table judged = (depths : List ℕ) × AreDepths case table depths × (judged ≡ in_order_of (by_depth depths) (numbered_from 1 table))
AreInOrder case effect.AllowOverride table judged = judged ≡ numbered_from 1 table
AreInOrder case effect.DenyOverride table judged = judged ≡ numbered_from 1 table
AreInOrder case effect.AllowAndDeny table judged = judged ≡ numbered_from 1 table
AreInOrder case effect.Priority table judged = judged ≡ numbered_from 1 table
