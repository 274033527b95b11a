-- Columns and relations that are declared: where they stand, and that all that an expression names is so.
use Rattle.std.proofs.Common.{◌≡◌, ℕ, ◌<◌, ◌&&◌, Bool, true, false, not, cond, true≢false, List, [], ◌∷◌, ◌++◌, length, Option, Some, None, refl, sym, ap, ◌∙◌}
use Rattle.std.specs.Prelude.{filter, get_or, option_and_then, position, slice_get, unwrap_or}
use Rattle.std.specs.List.{list_all, list_any}
use Rattle.std.specs.Str.{bytes_eq}
use Rattle.std.proofs.lemmas.Bool.{and_parts}
use Rattle.std.proofs.lemmas.List.Folds.{list_all-append}
use Rattle.std.proofs.lemmas.List.Quantifiers.{position-Some}
use Rattle.std.proofs.lemmas.Option.{unwrap_or-slice_get}
use Rattle.std.proofs.lemmas.Slice.Eq.{bytes_eq-Decides}
use Rattle.text_parts.proofs.CallerLemmas.{position-None}
use Rattle.policy_table.specs.Tables.{Fields}
use Rattle.model_conf.specs.ModelText.{ModelParts}
use Rattle.model_conf.specs.Uses.{Use, is_declared, sooner, first_by_place, first_undeclared}
use Rattle.matcher_meaning.specs.Cases.{at_column, field_of}
use Rattle.matcher_code.specs.Compiled.{column_number}
use Rattle.matcher_code.specs.Machine.{field_at}

-- each of these uses is declared by the model
abbrev pub are_named : ModelParts → List Use → Bool
are_named model all = list_all (is_declared model.request model.policy model.relations) all

pub named_parts : (model : ModelParts) (us vs : List Use) → are_named model (us ++ vs) ≡ true → (are_named model us ≡ true) × (are_named model vs ≡ true)
named_parts model us vs are = and_parts (are_named model us) (are_named model vs) (sym (list_all-append (is_declared model.request model.policy model.relations) us vs) ∙ are)

pub named_one : (model : ModelParts) (u : Use) → are_named model (u ∷ []) ≡ true → is_declared model.request model.policy model.relations u ≡ true
named_one model u are = (and_parts (is_declared model.request model.policy model.relations u) true are).0

none_left : (u : Use) (rest : List Use) (test all : Bool) → first_by_place (cond (not test) (u ∷ rest) rest) ≡ None → (first_by_place rest ≡ None → all ≡ true) → (test && all) ≡ true
none_left u rest true all none are = are none
none_left u rest false all none are = let some : ◌≡◌ {A = Option Use} (Some (sooner u (first_by_place rest))) None = none in absurd cc

all_pass : (test : Use → Bool) (us : List Use) → first_by_place (filter (λ (u : Use). not (test u)) us) ≡ None → list_all test us ≡ true
all_pass test [] none = refl
all_pass test (u ∷ us) none = none_left u (filter (λ (u : Use). not (test u)) us) (test u) (list_all test us) none (all_pass test us)

pub all_named : (model : ModelParts) (us : List Use) → first_undeclared model.request model.policy model.relations us ≡ None → are_named model us ≡ true
unfolding first_undeclared
all_named model us none = all_pass (is_declared model.request model.policy model.relations) us none

-- ---- a column that is declared

by_place : {P : ℕ → Type 0} (columns : List (List ℕ)) (name : List ℕ) (found : Option ℕ) → position (bytes_eq name) columns ≡ found → list_any (bytes_eq name) columns ≡ true
    → ((place : ℕ) → position (bytes_eq name) columns ≡ Some place → P place) → P (unwrap_or found 0)
by_place columns name (Some place) is any then_ = then_ place is
by_place columns name None is any then_ = absurd (true≢false (sym any ∙ position-None (bytes_eq name) columns is))

pub value_there : {X : Type 0} (columns : List (List ℕ)) (values : List X) (name : List ℕ) → list_any (bytes_eq name) columns ≡ true → at_column columns values name ≡ slice_get values (column_number columns name)
value_there {X} columns values name any =
    by_place {P = λ place. at_column columns values name ≡ slice_get values place} columns name (position (bytes_eq name) columns) refl any (λ place is. ap (λ (found : Option ℕ). option_and_then (λ n. slice_get values n) found) is)

pub field_there : (columns : List (List ℕ)) (row : Option Fields) (name : List ℕ) → list_any (bytes_eq name) columns ≡ true → field_of columns row name ≡ field_at row (column_number columns name)
field_there columns None name any = refl
field_there columns (Some row) name any = ap (λ (found : Option (List ℕ)). unwrap_or found []) (value_there columns row name any) ∙ unwrap_or-slice_get row (column_number columns name) []

pub column_there : (columns : List (List ℕ)) (name : List ℕ) → list_any (bytes_eq name) columns ≡ true → get_or columns (column_number columns name) [] ≡ name
column_there columns name any =
    by_place {P = λ place. get_or columns place [] ≡ name} columns name (position (bytes_eq name) columns) refl any
    (λ place is. sym ((bytes_eq-Decides name (get_or columns place [])).0 (position-Some (bytes_eq name) columns place [] is).1))

pub number_within : (columns : List (List ℕ)) (name : List ℕ) → list_any (bytes_eq name) columns ≡ true → column_number columns name < length columns
number_within columns name any =
    by_place {P = λ place. place < length columns} columns name (position (bytes_eq name) columns) refl any (λ place is. (position-Some (bytes_eq name) columns place [] is).0)
