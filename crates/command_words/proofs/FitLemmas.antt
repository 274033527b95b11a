-- Lists of relations that are read entry by entry.
use Rattle.std.proofs.Common.{◌≡◌, ℕ, zero, suc, ◌<◌, ◌≤◌, ◌||◌, Bool, true, false, cond, eqb, get_or, length, take, List, [], ◌∷◌, ◌++◌, refl, sym, ap, ◌∙◌, subst, arith}
use Rattle.std.proofs.lemmas.Bool.{eq-eqb, eqb-true, eqb-false, ne_eqb, or_from, or_left, or_parts, or_right}
use Rattle.std.proofs.lemmas.List.{get_or-map, length-map, length-take}
use Rattle.std.proofs.lemmas.List.Elements.{All-push, recursion_from_All}
use Rattle.std.proofs.lemmas.List.Folds.{list_any-append}
use Rattle.std.proofs.lemmas.List.Quantifiers.{all_pairs_push}
use Rattle.std.proofs.lemmas.Map.Keys.{IsDistinct-cons, IsDistinct-from_apart}
use Rattle.std.proofs.lemmas.Map.Steps.{length-le_from_distinct_below}
use Rattle.std.specs.Prelude.{Option, Some, None, map}
use Rattle.std.specs.List.{AllByRecursion, IsDistinct, list_any}
use Rattle.perm_base.specs.declared.shapes.Fit.{Fit}
use Rattle.perm_base.specs.declared.shapes.Fit.TheVariants.{Exact}
use Rattle.command_words.specs.Fits.{AreNamedOnce, AreRelations, has_relation}
use Rattle.command_words.specs.Values.{entry_of, fits_in, with_fit}

-- ---- eight relations at most

abbrev relations : List (ℕ × Fit) → List ℕ
relations fits = map (λ (fit : ℕ × Fit). fit.0) fits

-- a relation that is none of these differs from each
others : (fits : List (ℕ × Fit)) (relation : ℕ) → has_relation fits relation ≡ false → AllByRecursion (λ (other : ℕ). eqb relation other ≡ false) (relations fits)
others [] relation none = tt
others (fit ∷ fits) relation none =
    let both = or_parts (eqb relation fit.0) (has_relation fits relation) none in
    (both.0, others fits relation both.1)

-- 0 is none
above : (fits : List (ℕ × Fit)) → AreRelations fits → AllByRecursion (λ (other : ℕ). eqb 0 other ≡ false) (relations fits)
above fits are = by_each fits (recursion_from_All (λ (fit : ℕ × Fit). (0 < fit.0) × (fit.0 ≤ 8)) fits are)
  where
    by_each : (fits : List (ℕ × Fit)) → AllByRecursion (λ (fit : ℕ × Fit). (0 < fit.0) × (fit.0 ≤ 8)) fits → AllByRecursion (λ (other : ℕ). eqb 0 other ≡ false) (relations fits)
    by_each [] each = tt
    by_each (fit ∷ fits) each = (ne_eqb 0 fit.0 (λ e. omega (arith, each.0.0)), by_each fits each.1)

-- all are below 9
below : (fits : List (ℕ × Fit)) → AreRelations fits → (q : ℕ) → list_any (eqb q) (relations fits) ≡ true → q < 9
below fits are q found = by_each fits (recursion_from_All (λ (fit : ℕ × Fit). (0 < fit.0) × (fit.0 ≤ 8)) fits are) found
  where
    by_test : (fit : ℕ × Fit) (fits : List (ℕ × Fit)) (test : Bool) → eqb q fit.0 ≡ test → fit.0 ≤ 8 → (list_any (eqb q) (relations fits) ≡ true → q < 9) → (test || list_any (eqb q) (relations fits)) ≡ true → q < 9
    by_test fit fits true e small rest found = omega (arith, eqb-true q fit.0 e)
    by_test fit fits false e small rest found = rest found

    by_each : (fits : List (ℕ × Fit)) → AllByRecursion (λ (fit : ℕ × Fit). (0 < fit.0) × (fit.0 ≤ 8)) fits → list_any (eqb q) (relations fits) ≡ true → q < 9
    by_each [] each found = absurd cc
    by_each (fit ∷ fits) each found = by_test fit fits (eqb q fit.0) refl each.0.1 (by_each fits each.1) found

distinct : (fits : List (ℕ × Fit)) → AreNamedOnce fits → IsDistinct eqb (relations fits)
distinct fits once =
    IsDistinct-from_apart eqb (relations fits) (λ i j d lt within.
    let inside : j < length fits = omega (arith, length-map fits (λ (fit : ℕ × Fit). fit.0)) in
    let first = get_or-map (λ (fit : ℕ × Fit). fit.0) fits i (d, Exact) d (omega arith) in
    let second = get_or-map (λ (fit : ℕ × Fit). fit.0) fits j (d, Exact) d inside in
    rw (first, second) (ne_eqb _ _ (once i j (d, Exact) lt inside)))

-- beside one that is none of them there are seven at most
few_others : (fits : List (ℕ × Fit)) (relation : ℕ) → AreNamedOnce fits → AreRelations fits → (0 < relation) × (relation ≤ 8) → has_relation fits relation ≡ false → length fits < 8
few_others fits relation once are within none =
    let all = IsDistinct-cons eqb relation (0 ∷ relations fits) (ne_eqb relation 0 (λ e. omega (arith, within.0)), others fits relation none) (IsDistinct-cons eqb 0 (relations fits) (above fits are) (distinct fits once)) in
    let most = length-le_from_distinct_below (relation ∷ 0 ∷ relations fits) 9 all (λ q found. at q (eqb q relation) (eqb q 0) refl refl found) in
    omega (arith, most, length-map fits (λ (fit : ℕ × Fit). fit.0))
  where
    at : (q : ℕ) (first second : Bool) → eqb q relation ≡ first → eqb q 0 ≡ second → (first || (second || list_any (eqb q) (relations fits))) ≡ true → q < 9
    at q true second e f found = omega (arith, eqb-true q relation e, within.1)
    at q false true e f found = omega (arith, eqb-true q 0 f)
    at q false false e f found = below fits are q found

-- the place behind them is one of eight
pub place_below : (slots : List (ℕ × Fit)) (count : ℕ) (fits : List (ℕ × Fit)) (relation : ℕ) → count ≤ length slots → take count slots ≡ fits → AreNamedOnce (take count slots) → AreRelations (take count slots) → (0 < relation) × (relation ≤ 8)
    → has_relation fits relation ≡ false → count < 8
place_below slots count fits relation room is once are within none =
    let few = few_others (take count slots) relation once are within (ap (λ (seen : List (ℕ × Fit)). has_relation seen relation) is ∙ none) in
    omega (arith, few, length-take count slots)

-- one more keeps them apart
pub once_push : (fits : List (ℕ × Fit)) (relation : ℕ) (fit : Fit) → AreNamedOnce fits → has_relation fits relation ≡ false → AreNamedOnce (fits ++ (relation, fit) ∷ [])
once_push fits relation fit once none =
    all_pairs_push (λ (first second : ℕ × Fit). first.0 ≡ second.0 → ⊥) fits (relation, fit) once (λ k d inside e.
    differs fits (others fits relation none) k d inside (sym e))
  where
    differs : (fits : List (ℕ × Fit)) → AllByRecursion (λ (other : ℕ). eqb relation other ≡ false) (relations fits) → (k : ℕ) (d : ℕ × Fit) → k < length fits → relation ≡ (get_or fits k d).0 → ⊥
    differs [] each k d inside e = omega arith
    differs (first ∷ fits) each zero d inside e = eqb-false relation first.0 each.0 e
    differs (first ∷ fits) each (suc k) d inside e = differs fits each.1 k d (omega arith) e

pub relations_push : (fits : List (ℕ × Fit)) (relation : ℕ) (fit : Fit) → AreRelations fits → (0 < relation) × (relation ≤ 8) → AreRelations (fits ++ (relation, fit) ∷ [])
relations_push fits relation fit are within = All-push (λ (fit : ℕ × Fit). (0 < fit.0) × (fit.0 ≤ 8)) fits (relation, fit) are within

-- ---- read entry by entry

-- these in front of what follows
abbrev pub onto : List (ℕ × Fit) → Option (List (ℕ × Fit)) → Option (List (ℕ × Fit))
onto [] rest = rest
onto (fit ∷ fits) rest = with_fit (Some fit) (onto fits rest)

-- none of the relations stands behind itself
abbrev pub AreApart : List (ℕ × Fit) → Type 0
AreApart [] = Unit {0}
AreApart (fit ∷ fits) = (has_relation fits fit.0 ≡ false) × AreApart fits

pub onto_end : (fits : List (ℕ × Fit)) → AreApart fits → onto fits (Some []) ≡ Some fits
onto_end [] apart = refl
onto_end (fit ∷ fits) apart = rw (onto_end fits apart.1, apart.0) refl

pub onto_none : (fits : List (ℕ × Fit)) → onto fits None ≡ None
onto_none [] = refl
onto_none (fit ∷ fits) = rw (onto_none fits) refl

pub onto_push : (fits : List (ℕ × Fit)) (new : ℕ × Fit) (rest : Option (List (ℕ × Fit))) → onto (fits ++ new ∷ []) rest ≡ onto fits (with_fit (Some new) rest)
onto_push [] new rest = refl
onto_push (fit ∷ fits) new rest = ap (with_fit (Some fit)) (onto_push fits new rest)

pub apart_push : (fits : List (ℕ × Fit)) (new : ℕ × Fit) → AreApart fits → has_relation fits new.0 ≡ false → AreApart (fits ++ new ∷ [])
apart_push [] new apart none = (refl, tt)
apart_push (fit ∷ fits) new apart none =
    let both = or_parts (eqb new.0 fit.0) (has_relation fits new.0) none in
    let other : eqb fit.0 new.0 ≡ false = ne_eqb fit.0 new.0 (λ e. eqb-false new.0 fit.0 both.0 (sym e)) in
    (list_any-append (λ (x : ℕ × Fit). eqb fit.0 x.0) fits (new ∷ []) ∙ or_from _ _ apart.0 (or_from _ _ other refl), apart_push fits new apart.1 both.1)

-- the relation is one of those, if there are any
abbrev IsAmong : ℕ → Option (List (ℕ × Fit)) → Type 0
IsAmong relation None = Unit {0}
IsAmong relation (Some fits) = has_relation fits relation ≡ true

among_cond : (relation : ℕ) (test : Bool) (fit : ℕ × Fit) (fits : List (ℕ × Fit)) → (eqb relation fit.0 || has_relation fits relation) ≡ true → IsAmong relation (cond test None (Some (fit ∷ fits)))
among_cond relation true fit fits is = tt
among_cond relation false fit fits is = is

among_with : (relation : ℕ) (fit : ℕ × Fit) (rest : Option (List (ℕ × Fit))) → IsAmong relation rest → IsAmong relation (with_fit (Some fit) rest)
among_with relation fit None is = tt
among_with relation fit (Some fits) is = among_cond relation (has_relation fits fit.0) fit fits (or_right _ _ is)

among_onto : (relation : ℕ) (fits : List (ℕ × Fit)) (rest : Option (List (ℕ × Fit))) → IsAmong relation rest → IsAmong relation (onto fits rest)
among_onto relation [] rest is = is
among_onto relation (fit ∷ fits) rest is = among_with relation fit (onto fits rest) (among_onto relation fits rest is)

among_new : (new : ℕ × Fit) (rest : Option (List (ℕ × Fit))) → IsAmong new.0 (with_fit (Some new) rest)
among_new new None = tt
among_new new (Some fits) = among_cond new.0 (has_relation fits new.0) new fits (or_left _ _ (eq-eqb new.0 new.0 refl))

-- so it cannot stand in front of them
refused : (fit : ℕ × Fit) (rest : Option (List (ℕ × Fit))) → IsAmong fit.0 rest → with_fit (Some fit) rest ≡ None
refused fit None is = refl
refused fit (Some fits) is = rw is refl

onto_same : (fits : List (ℕ × Fit)) (relation : ℕ) (rest : Option (List (ℕ × Fit))) → has_relation fits relation ≡ true → IsAmong relation rest → onto fits rest ≡ None
onto_same [] relation rest has is = absurd cc
onto_same (fit ∷ fits) relation rest has is = by_test (eqb relation fit.0) refl has (onto_same fits relation rest)
  where
    by_test : (test : Bool) → eqb relation fit.0 ≡ test → (test || has_relation fits relation) ≡ true → (has_relation fits relation ≡ true → IsAmong relation rest → onto fits rest ≡ None) → with_fit (Some fit) (onto fits rest) ≡ None
    by_test true e has later = refused fit (onto fits rest) (subst (λ (q : ℕ). IsAmong q (onto fits rest)) (eqb-true relation fit.0 e) (among_onto relation fits rest is))
    by_test false e has later = rw (later has is) refl

-- a relation that stands already
pub onto_again : (fits : List (ℕ × Fit)) (new : ℕ × Fit) (rest : Option (List (ℕ × Fit))) → has_relation fits new.0 ≡ true → onto fits (with_fit (Some new) rest) ≡ None
onto_again fits new rest has = onto_same fits new.0 (with_fit (Some new) rest) has (among_new new rest)

-- ---- each way out, by what the whole list says

-- an entry that is none
pub bad_entry : (whole : Option (List (ℕ × Fit))) (fits : List (ℕ × Fit)) (entries more : List (List ℕ)) (text : List ℕ) → whole ≡ onto fits (fits_in entries) → entries ≡ text ∷ more → entry_of text ≡ None → None ≡ whole
bad_entry whole fits entries more text is parts none =
    sym (is ∙ ap (λ (es : List (List ℕ)). onto fits (fits_in es)) parts ∙ ap (λ (entry : Option (ℕ × Fit)). onto fits (with_fit entry (fits_in more))) none ∙ onto_none fits)

-- a relation that stands already
pub named_twice : (whole : Option (List (ℕ × Fit))) (fits : List (ℕ × Fit)) (entries more : List (List ℕ)) (text : List ℕ) (new : ℕ × Fit) → whole ≡ onto fits (fits_in entries) → entries ≡ text ∷ more → entry_of text ≡ Some new → has_relation fits new.0 ≡ true → None ≡ whole
named_twice whole fits entries more text new is parts entry has =
    sym (is ∙ ap (λ (es : List (List ℕ)). onto fits (fits_in es)) parts ∙ ap (λ (found : Option (ℕ × Fit)). onto fits (with_fit found (fits_in more))) entry ∙ onto_again fits new (fits_in more) has)

-- one more entry
pub one_more : (whole : Option (List (ℕ × Fit))) (fits : List (ℕ × Fit)) (entries more : List (List ℕ)) (text : List ℕ) (new : ℕ × Fit) → whole ≡ onto fits (fits_in entries) → entries ≡ text ∷ more → entry_of text ≡ Some new → whole ≡ onto (fits ++ new ∷ []) (fits_in more)
one_more whole fits entries more text new is parts entry =
    is ∙ ap (λ (es : List (List ℕ)). onto fits (fits_in es)) parts ∙ ap (λ (found : Option (ℕ × Fit)). onto fits (with_fit found (fits_in more))) entry ∙ sym (onto_push fits new (fits_in more))
