-- Tallies by their texts, after a text was touched or its tally has changed.
use Rattle.std.proofs.Common.{◌≡◌, ◌+◌, ℕ, Bool, true, false, ◌||◌, cond, List, [], ◌∷◌, ◌++◌, Option, None, Some, refl, sym, ap, ◌∙◌, arith}
use Rattle.std.specs.Prelude.{if◌then◌else◌, is_some}
use Rattle.std.specs.Option.{option_map_or}
use Rattle.std.specs.Str.{bytes_eq}
use Rattle.std.proofs.lemmas.Bool.{false≢true}
use Rattle.policy_table.specs.Tables.{Fields}
use Rattle.role_domain.specs.Domains.{found}
use Rattle.role_domain.specs.Helps.Tallies.{Tallies, has_text, own_at, rows_at}
use Rattle.role_domain.specs.declared.tally.Tally.{Tally}
use Rattle.role_domain.proofs.Keyed.{same_text, text_itself}

-- the tally of a text in other tallies, and those of others as they were
module _ (old new : Tallies) (text : List ℕ) (after : Tally) (wrote : (other : List ℕ) → found new other ≡ cond (bytes_eq other text) (Some after) (found old other)) where
  pub touched_text : (other : List ℕ) → has_text new other ≡ (bytes_eq other text || has_text old other)
  touched_text other = ap is_some (wrote other) ∙ by (bytes_eq other text)
    where
      by : (b : Bool) → is_some (cond b (Some after) (found old other)) ≡ (b || is_some (found old other))
      by true = refl
      by false = refl

  own_wrote : (other : List ℕ) → own_at new other ≡ cond (bytes_eq other text) after.own (own_at old other)
  own_wrote other = ap (λ (o : Option Tally). option_map_or (λ (tally : Tally). tally.own) o 0) (wrote other) ∙ by (bytes_eq other text)
    where
      by : (b : Bool) → option_map_or (λ (tally : Tally). tally.own) (cond b (Some after) (found old other)) 0 ≡ cond b after.own (own_at old other)
      by true = refl
      by false = refl

  rows_wrote : (other : List ℕ) → rows_at new other ≡ cond (bytes_eq other text) after.rows.items (rows_at old other)
  rows_wrote other = ap (λ (o : Option Tally). option_map_or (λ (tally : Tally). tally.rows.items) o []) (wrote other) ∙ by (bytes_eq other text)
    where
      by : (b : Bool) → option_map_or (λ (tally : Tally). tally.rows.items) (cond b (Some after) (found old other)) [] ≡ cond b after.rows.items (rows_at old other)
      by true = refl
      by false = refl

  pub own_stays : after.own ≡ own_at old text → (other : List ℕ) → own_at new other ≡ own_at old other
  own_stays is other = own_wrote other ∙ by (bytes_eq other text) refl
    where
      by : (b : Bool) → bytes_eq other text ≡ b → cond b after.own (own_at old other) ≡ own_at old other
      by true same = is ∙ ap (own_at old) (sym (same_text other text same))
      by false same = refl

  pub rows_stay : after.rows.items ≡ rows_at old text → (other : List ℕ) → rows_at new other ≡ rows_at old other
  rows_stay is other = rows_wrote other ∙ by (bytes_eq other text) refl
    where
      by : (b : Bool) → bytes_eq other text ≡ b → cond b after.rows.items (rows_at old other) ≡ rows_at old other
      by true same = is ∙ ap (rows_at old) (sym (same_text other text same))
      by false same = refl

  pub own_more : after.own ≡ own_at old text + 1 → (other : List ℕ) → own_at new other ≡ own_at old other + (if bytes_eq other text then 1 else 0)
  own_more is other = own_wrote other ∙ by (bytes_eq other text) refl
    where
      by : (b : Bool) → bytes_eq other text ≡ b → cond b after.own (own_at old other) ≡ own_at old other + (if b then 1 else 0)
      by true same = is ∙ ap (λ (t : List ℕ). own_at old t + 1) (sym (same_text other text same))
      by false same = omega arith

  pub rows_more : (pair : Fields) → after.rows.items ≡ rows_at old text ++ pair ∷ [] → (other : List ℕ) → rows_at new other ≡ (if bytes_eq other text then rows_at old other ++ pair ∷ [] else rows_at old other)
  rows_more pair is other = rows_wrote other ∙ by (bytes_eq other text) refl
    where
      by : (b : Bool) → bytes_eq other text ≡ b → cond b after.rows.items (rows_at old other) ≡ (if b then rows_at old other ++ pair ∷ [] else rows_at old other)
      by true same = is ∙ ap (λ (t : List ℕ). rows_at old t ++ pair ∷ []) (sym (same_text other text same))
      by false same = refl

-- what is found is what is at the text
pub own_found : (tallies : Tallies) (text : List ℕ) (tally : Tally) → Some tally ≡ found tallies text → tally.own ≡ own_at tallies text
own_found tallies text tally is = ap (λ (o : Option Tally). option_map_or (λ (t : Tally). t.own) o 0) is

pub rows_found : (tallies : Tallies) (text : List ℕ) (tally : Tally) → Some tally ≡ found tallies text → tally.rows.items ≡ rows_at tallies text
rows_found tallies text tally is = ap (λ (o : Option Tally). option_map_or (λ (t : Tally). t.rows.items) o []) is

pub own_nowhere : (tallies : Tallies) (text : List ℕ) → None ≡ found tallies text → 0 ≡ own_at tallies text
own_nowhere tallies text is = ap (λ (o : Option Tally). option_map_or (λ (t : Tally). t.own) o 0) is

pub rows_nowhere : (tallies : Tallies) (text : List ℕ) → None ≡ found tallies text → [] ≡ rows_at tallies text
rows_nowhere tallies text is = ap (λ (o : Option Tally). option_map_or (λ (t : Tally). t.rows.items) o []) is

-- a text that is there is touched already
pub there_already : (tallies : Tallies) (text : List ℕ) (tally : Tally) → Some tally ≡ found tallies text → (other : List ℕ) → has_text tallies other ≡ (bytes_eq other text || has_text tallies other)
there_already tallies text tally is other = by (bytes_eq other text) refl
  where
    by : (b : Bool) → bytes_eq other text ≡ b → has_text tallies other ≡ (b || has_text tallies other)
    by true same = ap (has_text tallies) (same_text other text same) ∙ sym (ap is_some is)
    by false same = refl

-- a text that was touched is there
pub touched_there : (old new : Tallies) (text : List ℕ) → ((other : List ℕ) → has_text new other ≡ (bytes_eq other text || has_text old other)) → None ≡ found new text → ⊥
touched_there old new text touched none = false≢true (ap is_some none ∙ touched text ∙ ap (λ (b : Bool). b || has_text old text) (text_itself text))
