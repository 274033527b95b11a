-- Rules at places that are known.
use Rattle.std.proofs.Common.{◌≡◌, ℕ, ◌+◌, ◌<◌, ◌&&◌, ◌||◌, ◌==◌, Bool, true, false, cond, List, [], ◌∷◌, length, map, filter, get_or, drop, slice_get, All, Some, refl, sym, ap, subst, ◌∙◌, arith, true≢false}
use Rattle.std.specs.Str.{bytes_eq}
use Rattle.std.proofs.lemmas.List.{drop_more, get_or-map, length-map}
use Rattle.std.proofs.lemmas.List.Elements.{All-head, All-tail}
use Rattle.std.proofs.lemmas.Option.{get_or_from_slice_get, slice_get-get_or, slice_get_within}
use Rattle.policy_table.specs.Filters.{fits_filter, fits_values}
use Rattle.policy_table.specs.Tables.{Fields}
use Rattle.edit_calls.specs.Edits.{rows_with}
use Rattle.edit_calls.specs.Found.{FindFitting, rules_at}

-- the rule at one of the places
pub rule_here : (rules : List Fields) (places : List ℕ) (index d : ℕ) (rule : Fields) → index < length places → slice_get rules (get_or places index d) ≡ Some rule → slice_get (rules_at rules places) index ≡ Some rule
rule_here rules places index d rule within there =
    slice_get-get_or (rules_at rules places) index [] (omega (arith, within, length-map places (λ (place : ℕ). get_or rules place [])))
    ∙ ap (λ (row : Fields). Some row) (get_or-map (λ (place : ℕ). get_or rules place []) places index d [] within ∙ get_or_from_slice_get rules (get_or places index d) rule [] there)

-- has what all rules have
pub rule_has : (R : Fields → Type 0) (rules : List Fields) (place : ℕ) (rule : Fields) → slice_get rules place ≡ Some rule → All R rules → R rule
rule_has R rules place rule there all = subst R (get_or_from_slice_get rules place rule [] there) (all place [] (slice_get_within rules place rule there))

-- and so have the rules at all places
pub places_have : (R : Fields → Type 0) (rules : List Fields) (places : List ℕ) → All (λ (place : ℕ). place < length rules) places → All R rules → All R (rules_at rules places)
places_have R rules places within all = λ k d inside.
    let here : k < length places = omega (arith, inside, length-map places (λ (place : ℕ). get_or rules place [])) in
    subst R (sym (get_or-map (λ (place : ℕ). get_or rules place []) places k 0 d here)) (all (get_or places k 0) [] (within k 0 here))

-- what a test picks of those that pass a weaker one
pub filter_through : (b f : Fields → Bool) (rules : List Fields) → All (λ (rule : Fields). b rule ≡ true → f rule ≡ true) rules → filter b (filter f rules) ≡ filter b rules
filter_through b f [] all = refl
filter_through b f (rule ∷ rules) all =
    by (f rule) refl (b rule) refl (All-head (λ (r : Fields). b r ≡ true → f r ≡ true) rule rules all) (filter_through b f rules (All-tail (λ (r : Fields). b r ≡ true → f r ≡ true) rule rules all))
  where
    by : (passes : Bool) → f rule ≡ passes → (picked : Bool) → b rule ≡ picked → (b rule ≡ true → f rule ≡ true) → filter b (filter f rules) ≡ filter b rules
        → filter b (cond passes (rule ∷ filter f rules) (filter f rules)) ≡ cond picked (rule ∷ filter b rules) (filter b rules)
    by true e true is weaker rest = ap (λ (t : Bool). cond t (rule ∷ filter b (filter f rules)) (filter b (filter f rules))) is ∙ ap (λ (l : List Fields). rule ∷ l) rest
    by true e false is weaker rest = ap (λ (t : Bool). cond t (rule ∷ filter b (filter f rules)) (filter b (filter f rules))) is ∙ rest
    by false e true is weaker rest = absurd (true≢false (sym (weaker is) ∙ e))
    by false e false is weaker rest = rest

-- a rule with the name fits the filter of the name alone
name_fits : (name : List ℕ) (column : ℕ) (rule : Fields) → column < length rule → bytes_eq name (get_or rule column []) ≡ true → fits_filter rule column (name ∷ []) ≡ true
name_fits name column rule within equal = ap (λ (l : Fields). fits_values l (name ∷ [])) (drop_more rule column [] within) ∙ both (length name == 0) (bytes_eq name (get_or rule column [])) (fits_values (drop (column + 1) rule) []) equal (none (drop (column + 1) rule))
  where
    none : (left : Fields) → fits_values left [] ≡ true
    none [] = refl
    none (field ∷ fields) = refl

    both : (a b c : Bool) → b ≡ true → c ≡ true → ((a || b) && c) ≡ true
    both true b c first second = second
    both false b c first second = λ j. first j && second j

-- the rules with the name are found by that filter
pub named_at : (column : ℕ) (name : List ℕ) (rules : List Fields) (places : List ℕ) → All (λ (rule : Fields). column < length rule) rules → FindFitting column (name ∷ []) rules places → rows_with column name (rules_at rules places) ≡ rows_with column name rules
named_at column name rules places columns known =
    sym (filter_through named fits (rules_at rules places) (weaker (rules_at rules places) (places_have (λ (rule : Fields). column < length rule) rules places known.within columns)))
    ∙ ap (filter named) known.same
    ∙ filter_through named fits rules (weaker rules columns)
  where
    named : Fields → Bool
    named rule = bytes_eq name (get_or rule column [])

    fits : Fields → Bool
    fits rule = fits_filter rule column (name ∷ [])

    weaker : (l : List Fields) → All (λ (rule : Fields). column < length rule) l → All (λ (rule : Fields). named rule ≡ true → fits rule ≡ true) l
    weaker l all = λ k d within. name_fits name column (get_or l k d) (all k d within)
