-- What a matcher is judged in: a model, a request and a row, and the tables whose role rows are the links (Casbin, syntax for models: matchers; RBAC).
use Rattle.std.specs.Prelude.{◌≡◌, ℕ, List, [], Option, Some, None, is_some, option_and_then, unwrap_or, position, slice_get}
use Rattle.std.specs.Str.{bytes_eq}
use Rattle.perm_base.specs.RoleShapes.{shape_of}
use Rattle.perm_base.specs.declared.shapes.RoleShape.{RoleShape}
use Rattle.perm_base.specs.declared.shapes.Shapes.{Shapes}
use Rattle.perm_base.specs.declared.shapes.TableId.TheVariants.{G}
use Rattle.perm_value.specs.Datum.{Datum}
use Rattle.policy_table.specs.Tables.{Fields, Policy, rows}
use Rattle.model_conf.specs.ModelText.{ModelParts}
use Rattle.role_meaning.specs.Links.{IsLinked}

-- what stands at the place of a column; None where no column has the name
abbrev pub at_column : {X : Type 0} → List (List ℕ) → List X → List ℕ → Option X
at_column columns values name = option_and_then (λ place. slice_get values place) (position (bytes_eq name) columns)

-- the field of a row; without a row, or without the column, it is the empty text
abbrev pub field_of : List (List ℕ) → Option (List (List ℕ)) → List ℕ → List ℕ
field_of columns None name = []
field_of columns (Some row) name = unwrap_or (at_column columns row name) []

-- the model; a request by its columns, and a row of the policy, or none, by those of the policy; the shapes of the tables and the tables, whose role rows are the links; the place and the pattern of a search that was refused, or none
pub record Case : Type 0 where
  pub model : ModelParts
  pub request : List Datum
  pub row : Option Fields
  pub shapes : Shapes
  pub policy : Policy
  pub refused : Option (ℕ × List ℕ)

-- the same at this row, or without one
abbrev pub at_row : Case → Option Fields → Case
at_row case row = record case { row = row }

-- the same where this search is refused, or none
abbrev pub where_refused : Case → Option (ℕ × List ℕ) → Case
where_refused case refused = record case { refused = refused }

-- the value of a request's column
abbrev pub asked_value : Case → List ℕ → Option Datum
asked_value case column = at_column case.model.request case.request column

-- the field of the row in a column of the policy; without a row, or without the column, it is the empty text
abbrev pub row_text : Case → List ℕ → List ℕ
row_text case column = field_of case.model.policy case.row column

-- the relation of this number links the one name to the other: it is there, a domain is asked exactly where it has one, and a chain of its rows leads from name to name within the hierarchy limit
pub record IsLinkedBy (shapes : Shapes) (policy : Policy) (relation : ℕ) (x y : List ℕ) (domain : Option (List ℕ)) : Type 0 where
  pub shape : RoleShape
  pub has : shape_of shapes.roles relation ≡ Some shape
  pub asked : is_some domain ≡ shape.with_domain
  pub linked : IsLinked shape (rows policy (G relation)) shapes.limit domain x y
