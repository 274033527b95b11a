-- The columns and the texts of a filter, value by value.
use Rattle.std.proofs.Common.{◌≡◌, ℕ, zero, suc, ◌+◌, ◌<◌, ◌≤◌, ◌==◌, Bool, true, false, not, cond, List, [], ◌∷◌, ◌++◌, length, get_or, take, drop, refl, sym, ap, subst, ◌∙◌, arith, append_assoc, append-nil}
use Rattle.std.proofs.lemmas.List.{drop_more}
use Rattle.std.proofs.lemmas.List.Elements.{filter_more}
use Rattle.policy_index.specs.Hashes.{IsKeyOf}
use Rattle.policy_index.specs.Helps.Filters.{columns_from, texts_of}

-- ---- the columns

-- that of the first value, and those of the others
first_column : (at : ℕ) (value : List ℕ) (values : List (List ℕ)) → columns_from at (value ∷ values) ≡ columns_from at (value ∷ []) ++ columns_from (at + 1) values
first_column at value values = by (length value == 0)
  where
    by : (b : Bool) → cond b (columns_from (at + 1) values) (at ∷ columns_from (at + 1) values) ≡ cond b [] (at ∷ []) ++ columns_from (at + 1) values
    by true = refl
    by false = refl

-- one value more
pub columns_more : (at place : ℕ) (values : List (List ℕ)) (value : List ℕ) (columns pushed all : List ℕ) → place < length values → value ≡ get_or values place [] → pushed ≡ columns ++ columns_from (at + place) (value ∷ [])
    → columns ++ columns_from (at + place) (drop place values) ≡ all → pushed ++ columns_from (at + (place + 1)) (drop (place + 1) values) ≡ all
columns_more at place values value columns pushed all within here more before =
    let rest : List ℕ = columns_from (at + place + 1) (drop (place + 1) values) in
    let split : columns_from (at + place) (drop place values) ≡ columns_from (at + place) (value ∷ []) ++ rest =
    ap (columns_from (at + place)) (drop_more values place [] within ∙ ap (λ (v : List ℕ). v ∷ drop (place + 1) values) (sym here)) ∙ first_column (at + place) value (drop (place + 1) values) in
    ap (λ (n : ℕ). pushed ++ columns_from n (drop (place + 1) values)) (let e : at + (place + 1) ≡ at + place + 1 = omega arith in e)
    ∙ ap (λ (l : List ℕ). l ++ rest) more
    ∙ append_assoc columns (columns_from (at + place) (value ∷ [])) rest
    ∙ ap (λ (l : List ℕ). columns ++ l) (sym split)
    ∙ before

-- before the first value, and behind the last
pub columns_none : (columns : List ℕ) (at : ℕ) (values : List (List ℕ)) → columns ≡ [] → columns ++ columns_from (at + 0) (drop 0 values) ≡ columns_from at values
columns_none columns at values none = ap (λ (l : List ℕ). l ++ columns_from (at + 0) values) none ∙ ap (λ (n : ℕ). columns_from n values) (let e : at + 0 ≡ at = omega arith in e)

pub columns_all : (columns : List ℕ) (at place : ℕ) (values : List (List ℕ)) (all : List ℕ) → length values ≤ place → columns ++ columns_from (at + place) (drop place values) ≡ all → columns ≡ all
columns_all columns at place values all past before =
    sym (append-nil columns) ∙ ap (λ (l : List (List ℕ)). columns ++ columns_from (at + place) l) (sym (nothing_left place values past)) ∙ before
  where
    none : (n : ℕ) → drop {A = List ℕ} n [] ≡ []
    none zero = refl
    none (suc n) = refl

    nothing_left : (n : ℕ) (l : List (List ℕ)) → length l ≤ n → drop n l ≡ []
    nothing_left n [] few = none n
    nothing_left zero (x ∷ xs) few = absurd (omega (arith, few))
    nothing_left (suc n) (x ∷ xs) few = nothing_left n xs (omega (arith, few))

-- the column of one value
pub column_open : (old : List ℕ) (column : ℕ) (value : List ℕ) → (length value == 0) ≡ true → old ≡ old ++ columns_from column (value ∷ [])
column_open old column value none = sym (append-nil old) ∙ ap (λ (b : Bool). old ++ cond b [] (column ∷ [])) (sym none)

pub column_closed : (old new : List ℕ) (column : ℕ) (value : List ℕ) → (length value == 0) ≡ false → new ≡ old ++ column ∷ [] → new ≡ old ++ columns_from column (value ∷ [])
column_closed old new column value some more = more ∙ ap (λ (b : Bool). old ++ cond b [] (column ∷ [])) (sym some)

-- ---- the texts

-- one value more
pub texts_more : (values : List (List ℕ)) (place hash : ℕ) (value : List ℕ) → place < length values → value ≡ get_or values place [] → IsKeyOf hash (texts_of (take place values) ++ texts_of (value ∷ [])) → IsKeyOf hash (texts_of (take (place + 1) values))
texts_more values place hash value within here key =
    let test = λ (v : List ℕ). (let t : Bool = not (length v == 0) in t) in
    subst (IsKeyOf hash) (ap (λ (v : List ℕ). texts_of (take place values) ++ texts_of (v ∷ [])) here ∙ sym (filter_more test values place [] within)) key

-- the text of one value
pub text_open : (hash : ℕ) (texts : List (List ℕ)) (value : List ℕ) → (length value == 0) ≡ true → IsKeyOf hash texts → IsKeyOf hash (texts ++ texts_of (value ∷ []))
text_open hash texts value none key = subst (IsKeyOf hash) (sym (append-nil texts) ∙ ap (λ (b : Bool). texts ++ cond (not b) (value ∷ []) []) (sym none)) key

pub text_closed : (hash : ℕ) (texts : List (List ℕ)) (value : List ℕ) → (length value == 0) ≡ false → IsKeyOf hash (texts ++ value ∷ []) → IsKeyOf hash (texts ++ texts_of (value ∷ []))
text_closed hash texts value some key = subst (IsKeyOf hash) (ap (λ (b : Bool). texts ++ cond (not b) (value ∷ []) []) (sym some)) key
