-- The shapes of a model.
use Rattle.std.proofs.Common.{◌≡◌, ℕ, Bool, List, [], ◌∷◌, length, map, not, Bor, Option, Some, None, refl, sym, ap, ◌∙◌, subst}
use Rattle.std.specs.Prelude.{codes, find, option_map, unwrap_or}
use Rattle.std.specs.Option.{option_or}
use Rattle.std.specs.List.Sorted.{IsStrictlyIncreasing}
use Rattle.std.proofs.lemmas.List.Elements.{All-map}
use Rattle.perm_base.specs.RoleShapes.{AreRoles, IsNumbered}
use Rattle.perm_base.specs.declared.shapes.Fit.{Fit}
use Rattle.perm_base.specs.declared.shapes.RoleShape.{RoleShape}
use Rattle.model_conf.specs.Kept.{AreRelations}
use Rattle.model_conf.specs.ModelText.{ModelParts}
use Rattle.model_conf.specs.Shapes.{first_absent, first_failing, fitted, has_domain, has_relation, is_ranked, place_of, shapes_of}

-- functions leave the numbers of relations as they are
same_numbers : (names domains : List (ℕ × Fit)) (relations : List RoleShape) → map (λ (shape : RoleShape). shape.number) (map (fitted names domains) relations) ≡ map (λ (shape : RoleShape). shape.number) relations
same_numbers names domains [] = refl
same_numbers names domains (shape ∷ relations) = ap (λ (numbers : List ℕ). shape.number ∷ numbers) (same_numbers names domains relations)

-- and so the relations rise as before
pub fitted_roles : (names domains : List (ℕ × Fit)) (relations : List RoleShape) → AreRelations relations → AreRoles (map (fitted names domains) relations)
fitted_roles names domains relations are = record {
  each = All-map IsNumbered (fitted names domains) relations (λ k d within. record { some = (are.each k d within).numbered.some; few = (are.each k d within).numbered.few });
  rising = subst IsStrictlyIncreasing (sym (same_numbers names domains relations)) are.rising;
}

-- shapes whose parts are those of the model
pub shapes_are : (model : ModelParts) (names domains : List (ℕ × Fit)) (limit columns subject : ℕ) (effect : Option ℕ) (roles : List RoleShape) (ranked : Bool) → columns ≡ length model.policy → effect ≡ place_of model.policy (codes "eft")
    → subject ≡ unwrap_or (place_of model.policy (codes "sub")) 0 → roles ≡ map (fitted names domains) model.relations → ranked ≡ is_ranked model.effect model.policy
    → record { columns = columns; effect_column = effect; subject_column = subject; roles = roles; limit = limit; ranked = ranked } ≡ shapes_of model names domains limit
unfolding shapes_of
shapes_are model names domains limit columns subject effect roles ranked c e s r k =
    λ i. record { columns = c i; effect_column = e i; subject_column = s i; roles = r i; limit = limit; ranked = k i }

-- ---- the first relation that a list names and the model lacks

abbrev pub number_of : Bor (ℕ × Fit) → ℕ
number_of fit = fit.now.0

abbrev named : ℕ × Fit → ℕ
named fit = fit.0

abbrev kept : Bor (ℕ × Fit) → ℕ × Fit
kept fit = fit.now

either : (one two : Option (Bor (ℕ × Fit))) → option_map number_of (option_or one two) ≡ option_or (option_map named (option_map kept one)) (option_map named (option_map kept two))
either None None = refl
either None (Some fit) = refl
either (Some fit) two = refl

pub absent_by : (relations : List RoleShape) (names domains : List (ℕ × Fit)) (one two : Option (Bor (ℕ × Fit))) → option_map kept one ≡ find (λ (fit : ℕ × Fit). not (has_relation relations fit.0)) names → option_map kept two ≡ find (λ (fit : ℕ × Fit). not (has_domain relations fit.0)) domains
    → option_map number_of (option_or one two) ≡ first_absent relations names domains
unfolding first_absent
absent_by relations names domains one two e f =
    either one two ∙ ap (λ (found : Option (ℕ × Fit)). option_or (option_map named found) (option_map named (option_map kept two))) e
    ∙ ap (λ (found : Option (ℕ × Fit)). option_or (first_failing (has_relation relations) names) (option_map named found)) f
