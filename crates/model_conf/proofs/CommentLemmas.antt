-- What is left of a text without its comment, found byte by byte.
use Rattle.std.proofs.Common.{◌≡◌, ◌≢◌, ℕ, ◌<◌, ◌≤◌, ◌&&◌, ◌||◌, inl, inr, Bool, true, false, cond, List, [], ◌∷◌, ◌++◌, length, take, drop, get_or, eqb, Option, Some, None, refl, sym, ap, ◌∙◌, subst, arith, drop-cons}
use Rattle.std.specs.Prelude.{is_none}
use Rattle.std.proofs.lemmas.Bool.{eqb-true, eqb-false, or_parts}
use Rattle.std.proofs.lemmas.Bool.Decides.{nat_tests}
use Rattle.std.proofs.lemmas.List.{append_assoc, append-nil, drop_all, take_all}
use Rattle.std.proofs.lemmas.List.Folds.{list_any-append}
use Rattle.text_parts.specs.Lines.{has_byte}
use Rattle.model_conf.specs.Comments.{IsQuote, IsUncommented, ended, comment, plain, quoted, unclosed}
use Rattle.model_conf.specs.Helps.Steps.{quote_after}

-- what is left behind some bytes, in a quoted text or not
abbrev pub uncommented : Option ℕ → List ℕ → List ℕ
uncommented quote [] = []
uncommented quote (byte ∷ bytes) = cond (is_none quote && eqb byte 35) [] (byte ∷ uncommented (quote_after quote byte) bytes)

-- ---- it is left

quote_by : (byte : ℕ) (test : Bool) → eqb byte 34 ≡ test → (test || eqb byte 39) ≡ true → IsQuote byte
quote_by byte true e f = inl (eqb-true byte 34 e)
quote_by byte false e f = inr (eqb-true byte 39 f)

no_quote_by : (byte : ℕ) → (eqb byte 34 || eqb byte 39) ≡ false → ¬ (IsQuote byte)
no_quote_by byte e (inl is) = grind (arith, nat_tests)
no_quote_by byte e (inr is) = grind (arith, nat_tests)

no_more_quote : (quote byte : ℕ) (front : List ℕ) → has_byte quote front ≡ false → eqb quote byte ≡ false → has_byte quote (front ++ byte ∷ []) ≡ false
no_more_quote quote byte front none other = rw (list_any-append (λ b. eqb b quote) front (byte ∷ []), none) (grind (arith, nat_tests))

-- a byte outside quoted texts
at_byte : (byte : ℕ) (bytes : List ℕ) (sharp sign : Bool) → eqb byte 35 ≡ sharp → (eqb byte 34 || eqb byte 39) ≡ sign → IsUncommented bytes (uncommented None bytes)
    → (IsQuote byte → IsUncommented (byte ∷ bytes) (byte ∷ uncommented (Some byte) bytes))
    → IsUncommented (byte ∷ bytes) (cond sharp [] (byte ∷ uncommented (cond sign (Some byte) None) bytes))
at_byte byte bytes true sign e f rest opened = subst (λ (b : ℕ). IsUncommented (b ∷ bytes) []) (sym (eqb-true byte 35 e)) comment
at_byte byte bytes false true e f rest opened = opened (quote_by byte (eqb byte 34) refl f)
at_byte byte bytes false false e f rest opened = plain (eqb-false byte 35 e) (no_quote_by byte f) rest

-- a byte inside a quoted text
in_quote : (quote byte : ℕ) (front bytes : List ℕ) (same : Bool) → IsQuote quote → has_byte quote front ≡ false → eqb quote byte ≡ same → IsUncommented bytes (uncommented None bytes)
    → (has_byte quote (front ++ byte ∷ []) ≡ false → IsUncommented (quote ∷ (front ++ byte ∷ []) ++ bytes) (quote ∷ (front ++ byte ∷ []) ++ uncommented (Some quote) bytes))
    → IsUncommented (quote ∷ front ++ byte ∷ bytes) (quote ∷ front ++ byte ∷ uncommented (cond same None (Some quote)) bytes)
in_quote quote byte front bytes true is none e rest more =
    let same : byte ≡ quote = sym (eqb-true quote byte e) in
    quoted front bytes (uncommented None bytes) is none rest (ap (λ (b : ℕ). front ++ b ∷ bytes) same) (ap (λ (b : ℕ). front ++ b ∷ uncommented None bytes) same)
in_quote quote byte front bytes false is none e rest more =
    let longer = more (no_more_quote quote byte front none e) in
    subst (λ (t : List ℕ). IsUncommented (quote ∷ t) (quote ∷ front ++ byte ∷ uncommented (Some quote) bytes)) (append_assoc front (byte ∷ []) bytes)
    (subst (λ (t : List ℕ). IsUncommented (quote ∷ (front ++ byte ∷ []) ++ bytes) (quote ∷ t)) (append_assoc front (byte ∷ []) (uncommented (Some quote) bytes)) longer)

mutual
  pub uncommented_is : (bytes : List ℕ) → IsUncommented bytes (uncommented None bytes)
  uncommented_is [] = ended
  uncommented_is (byte ∷ bytes) = at_byte byte bytes (eqb byte 35) (eqb byte 34 || eqb byte 39) refl refl (uncommented_is bytes) (λ is. quoted_is byte [] bytes is refl)

  quoted_is : (quote : ℕ) (front bytes : List ℕ) → IsQuote quote → has_byte quote front ≡ false → IsUncommented (quote ∷ front ++ bytes) (quote ∷ front ++ uncommented (Some quote) bytes)
  quoted_is quote front [] is none = unclosed is (rw (append-nil front) none) refl
  quoted_is quote front (byte ∷ bytes) is none = in_quote quote byte front bytes (eqb quote byte) is none refl (uncommented_is bytes) (λ longer. quoted_is quote (front ++ byte ∷ []) bytes is longer)

-- ---- nothing else is left

outside_plain : (byte : ℕ) (bytes : List ℕ) → byte ≢ 35 → ¬ (IsQuote byte) → uncommented None (byte ∷ bytes) ≡ byte ∷ uncommented None bytes
outside_plain byte bytes differs none =
    let sharp : eqb byte 35 ≡ false = grind (arith, nat_tests) in
    let double : eqb byte 34 ≡ false = by_cases (eqb byte 34) refl (λ e. none (inl (eqb-true byte 34 e))) in
    let single : eqb byte 39 ≡ false = by_cases (eqb byte 39) refl (λ e. none (inr (eqb-true byte 39 e))) in
    rw (sharp, double, single) refl
  where
    by_cases : {test : Bool} (b : Bool) → test ≡ b → ¬ (test ≡ true) → test ≡ false
    by_cases true e none = absurd (none e)
    by_cases false e none = e

outside_quote : (quote : ℕ) (bytes : List ℕ) → IsQuote quote → uncommented None (quote ∷ bytes) ≡ quote ∷ uncommented (Some quote) bytes
outside_quote quote bytes (inl is) = subst (λ (q : ℕ). uncommented None (q ∷ bytes) ≡ q ∷ uncommented (Some q) bytes) (sym is) refl
outside_quote quote bytes (inr is) = subst (λ (q : ℕ). uncommented None (q ∷ bytes) ≡ q ∷ uncommented (Some q) bytes) (sym is) refl

turned : (quote byte : ℕ) → eqb byte quote ≡ false → eqb quote byte ≡ false
turned quote byte e = grind (arith, nat_tests)

same : (quote : ℕ) → eqb quote quote ≡ true
same quote = grind (arith, nat_tests)

inside_closed : (quote : ℕ) (inside bytes : List ℕ) → has_byte quote inside ≡ false → uncommented (Some quote) (inside ++ quote ∷ bytes) ≡ inside ++ quote ∷ uncommented None bytes
inside_closed quote [] bytes none = rw (same quote) refl
inside_closed quote (byte ∷ inside) bytes none =
    let parts = or_parts (eqb byte quote) (has_byte quote inside) none in
    rw (turned quote byte parts.0) (ap (λ (t : List ℕ). byte ∷ t) (inside_closed quote inside bytes parts.1))

inside_unclosed : (quote : ℕ) (inside : List ℕ) → has_byte quote inside ≡ false → uncommented (Some quote) inside ≡ inside
inside_unclosed quote [] none = refl
inside_unclosed quote (byte ∷ inside) none =
    let parts = or_parts (eqb byte quote) (has_byte quote inside) none in
    rw (turned quote byte parts.0) (ap (λ (t : List ℕ). byte ∷ t) (inside_unclosed quote inside parts.1))

pub uncommented_only : {text left : List ℕ} → IsUncommented text left → left ≡ uncommented None text
uncommented_only ended = refl
uncommented_only comment = refl
uncommented_only (plain {byte} {bytes} differs none rest) = ap (λ (t : List ℕ). byte ∷ t) (uncommented_only rest) ∙ sym (outside_plain byte bytes differs none)
uncommented_only (quoted {quote} inside bytes left {text} {whole} is none rest spelled is_left) =
    ap (λ (t : List ℕ). quote ∷ t) (is_left ∙ ap (λ (t : List ℕ). inside ++ quote ∷ t) (uncommented_only rest) ∙ sym (inside_closed quote inside bytes none) ∙ ap (λ (t : List ℕ). uncommented (Some quote) t) (sym spelled)) ∙ sym (outside_quote quote text is)
uncommented_only (unclosed {quote} {inside} is none is_left) =
    ap (λ (t : List ℕ). quote ∷ t) (is_left ∙ sym (inside_unclosed quote inside none)) ∙ sym (outside_quote quote inside is)

-- ---- a step of the search

pub at_sharp : (text : List ℕ) (at : ℕ) → at < length text → get_or text at 0 ≡ 35 → uncommented None text ≡ take at text ++ uncommented None (drop at text) → uncommented None text ≡ take at text
at_sharp text at within is so_far = so_far ∙ rw (drop-cons text at 0 within, is) (append-nil (take at text))

pub at_last : (text : List ℕ) (quote : Option ℕ) (at : ℕ) → length text ≤ at → uncommented None text ≡ take at text ++ uncommented quote (drop at text) → uncommented None text ≡ text
at_last text quote at past so_far =
    let nothing : drop at text ≡ [] = drop_all at text past in
    let all : take at text ≡ text = take_all at text past in
    so_far ∙ rw (nothing, all) (append-nil text)
