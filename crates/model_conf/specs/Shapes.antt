-- The shapes that a model gives its tables, with the functions by which the names and domains of its relations are compared.
use Rattle.std.specs.Prelude.{ℕ, ◌==◌, ◌&&◌, ◌≢◌, Bool, false, not, List, ◌∷◌, length, codes, map, find, position, AllPairs, Option, option_map, unwrap_or}
use Rattle.std.specs.List.{list_any}
use Rattle.std.specs.Option.{option_or}
use Rattle.std.specs.Str.{bytes_eq}
use Rattle.effect_fold.specs.declared.effect.Effect.{Effect}
use Rattle.effect_fold.specs.declared.effect.Effect.TheVariants as e
use Rattle.perm_base.specs.declared.shapes.Fit.{Fit}
use Rattle.perm_base.specs.declared.shapes.Fit.TheVariants.{Exact}
use Rattle.perm_base.specs.declared.shapes.RoleShape.{RoleShape}
use Rattle.perm_base.specs.declared.shapes.Shapes.{Shapes}
use Rattle.model_conf.specs.ModelText.{ModelParts}

-- relations, each with a function, none of them twice
abbrev pub AreNamedOnce : List (ℕ × Fit) → Type 0
AreNamedOnce fits = AllPairs (λ (first second : ℕ × Fit). first.0 ≢ second.0) fits

-- the function of a relation, else equality
abbrev pub fit_of : List (ℕ × Fit) → ℕ → Fit
fit_of fits relation = unwrap_or (option_map (λ (fit : ℕ × Fit). fit.1) (find (λ (fit : ℕ × Fit). fit.0 == relation) fits)) Exact

-- the shape of a relation whose names and domains are compared so
abbrev pub fitted : List (ℕ × Fit) → List (ℕ × Fit) → RoleShape → RoleShape
fitted names domains shape = record shape { names = fit_of names shape.number; domains = fit_of domains shape.number }

-- the place of the column of that name
abbrev pub place_of : List (List ℕ) → List ℕ → Option ℕ
place_of columns name = position (bytes_eq name) columns

-- the effect is priority, and the first column is named `priority`
abbrev pub is_ranked : Effect → List (List ℕ) → Bool
is_ranked e.Priority (first ∷ others) = bytes_eq first (codes "priority")
is_ranked effect columns = false

-- the shapes: the effect's column is `eft`, the subject's is `sub`, else the first
unfoldable pub shapes_of : ModelParts → List (ℕ × Fit) → List (ℕ × Fit) → ℕ → Shapes
shapes_of model names domains limit =
    record {
      columns = length model.policy;
      effect_column = place_of model.policy (codes "eft");
      subject_column = unwrap_or (place_of model.policy (codes "sub")) 0;
      roles = map (fitted names domains) model.relations;
      limit = limit;
      ranked = is_ranked model.effect model.policy;
    }

-- the relation is one of these
abbrev pub has_relation : List RoleShape → ℕ → Bool
has_relation relations number = list_any (λ (shape : RoleShape). shape.number == number) relations

-- the relation is one of these, and has a domain column
abbrev pub has_domain : List RoleShape → ℕ → Bool
has_domain relations number = list_any (λ (shape : RoleShape). shape.number == number && shape.with_domain) relations

-- the first relation of the list that fails the test
abbrev pub first_failing : (ℕ → Bool) → List (ℕ × Fit) → Option ℕ
first_failing test fits = option_map (λ (fit : ℕ × Fit). fit.0) (find (λ (fit : ℕ × Fit). not (test fit.0)) fits)

-- the first of `names` that is no relation of the model; where there is none, the first of `domains` that has no domain column
unfoldable pub first_absent : List RoleShape → List (ℕ × Fit) → List (ℕ × Fit) → Option ℕ
first_absent relations names domains = option_or (first_failing (has_relation relations) names) (first_failing (has_domain relations) domains)
