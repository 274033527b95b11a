-- The effect that a text gives a model.
use Rattle.std.proofs.Common.{◌≡◌, ℕ, Bool, true, false, cond, List, [], Option, Some, None, refl, sym, ap, ◌∙◌, subst}
use Rattle.std.specs.Prelude.{is_some, option_and_then, position}
use Rattle.std.specs.List.{list_any}
use Rattle.std.specs.Str.{bytes_eq}
use Rattle.std.proofs.lemmas.List.Folds.{list_any_at}
use Rattle.std.proofs.lemmas.List.Quantifiers.{position-Some}
use Rattle.effect_fold.specs.declared.effect.Effect.{Effect}
use Rattle.text_parts.proofs.CallerLemmas.{position-None}
use Rattle.perm_base.specs.declared.shapes.RoleShape.{RoleShape}
use Rattle.model_conf.specs.Effects.{effect_of, if_allowed, may_have, model_effect}

pub no_text : (relations : List RoleShape) (policy : List (List ℕ)) (text : List ℕ) → None ≡ effect_of text → None ≡ model_effect relations policy text
unfolding model_effect
no_text relations policy text none = ap (option_and_then (if_allowed relations policy)) none

pub not_allowed : (relations : List RoleShape) (policy : List (List ℕ)) (text : List ℕ) (effect : Effect) → Some effect ≡ effect_of text → may_have relations policy effect ≡ false → None ≡ model_effect relations policy text
unfolding model_effect
not_allowed relations policy text effect is unfit = sym (ap (λ (b : Bool). cond b (Some effect) None) unfit) ∙ ap (option_and_then (if_allowed relations policy)) is

pub allowed : (relations : List RoleShape) (policy : List (List ℕ)) (text : List ℕ) (effect : Effect) → Some effect ≡ effect_of text → may_have relations policy effect ≡ true → model_effect relations policy text ≡ Some effect
unfolding model_effect
allowed relations policy text effect is fit = sym (ap (option_and_then (if_allowed relations policy)) is) ∙ ap (λ (b : Bool). cond b (Some effect) None) fit

-- a model may have the effect that it has
pub has_allowed : (relations : List RoleShape) (policy : List (List ℕ)) (text : List ℕ) (effect : Effect) → model_effect relations policy text ≡ Some effect → may_have relations policy effect ≡ true
unfolding model_effect
has_allowed relations policy text effect is = by_text (effect_of text) is
  where
    by_effect : (other : Effect) (b : Bool) → may_have relations policy other ≡ b → cond b (Some other) None ≡ Some effect → may_have relations policy effect ≡ true
    by_effect other true fit same = let one : other ≡ effect = cc in subst (λ (e : Effect). may_have relations policy e ≡ true) one fit
    by_effect other false fit same = absurd cc

    by_text : (o : Option Effect) → option_and_then (if_allowed relations policy) o ≡ Some effect → may_have relations policy effect ≡ true
    by_text (Some other) same = by_effect other (may_have relations policy other) refl same
    by_text None same = absurd cc

-- a column is there where it has a place
pub has_place : (columns : List (List ℕ)) (name : List ℕ) (place : Option ℕ) → place ≡ position (bytes_eq name) columns → is_some place ≡ list_any (bytes_eq name) columns
has_place columns name None is = sym (position-None (bytes_eq name) columns (sym is))
has_place columns name (Some at) is =
    let found = position-Some (bytes_eq name) columns at [] (sym is) in
    sym (list_any_at (bytes_eq name) columns at [] found.0 found.1)
