-- A text is its parts, joined by the separator, and has no other parts.
use Rattle.std.proofs.Common.{◌≡◌, ℕ, ◌+◌, ◌<◌, ◌≤◌, Bool, Some, None, length, take, drop, ltb, arith, List, [], ◌∷◌, ◌++◌, eqb, cond, true, false, refl, sym, ap, ◌∙◌}
use Rattle.std.specs.List.{AllByRecursion, join_with_byte, onto_first, position, position_or_len}
use Rattle.std.proofs.lemmas.Bool.{eq-eqb, ltb-true, ltb-false}
use Rattle.std.proofs.lemmas.List.Elements.{All-from_recursion}
use Rattle.std.proofs.lemmas.List.Splits.{slice_split_at, slice_split_first, slice_split_none, join_with_byte-slice_split}
use Rattle.std.proofs.lemmas.List.Sums.{fails_before_first}
use Rattle.std.proofs.lemmas.Option.{cond_some}
use Rattle.ip_match.specs.Helps.Parts.{parts_of}

-- the separator is none of the bytes
abbrev pub Lacks : ℕ → List ℕ → Type 0
Lacks c text = AllByRecursion (λ byte. eqb byte c ≡ false) text

pub Lacks-append : (c : ℕ) (xs ys : List ℕ) → Lacks c xs → Lacks c ys → Lacks c (xs ++ ys)
Lacks-append c [] ys h k = k
Lacks-append c (x ∷ xs) ys h k = (h.0, Lacks-append c xs ys h.1 k)

pub parts_cut : (c : ℕ) (front rest : List ℕ) → Lacks c front → parts_of c (front ++ c ∷ rest) ≡ front ∷ parts_of c rest
parts_cut c front rest h =
    slice_split_at (λ byte. eqb byte c) front c rest (All-from_recursion (λ byte. eqb byte c ≡ false) front h) (eq-eqb c c refl)

pub parts_one : (c : ℕ) (text : List ℕ) → Lacks c text → parts_of c text ≡ text ∷ []
parts_one c text h = slice_split_none (λ byte. eqb byte c) text (All-from_recursion (λ byte. eqb byte c ≡ false) text h)

pub parts_joined : (c : ℕ) (p : List ℕ) (ps : List (List ℕ)) → AllByRecursion (Lacks c) (p ∷ ps) → parts_of c (join_with_byte c (p ∷ ps)) ≡ p ∷ ps
parts_joined c p [] h = parts_one c p h.0
parts_joined c p (q ∷ ps) h = parts_cut c p (join_with_byte c (q ∷ ps)) h.0 ∙ ap (λ (parts : List (List ℕ)). p ∷ parts) (parts_joined c q ps h.1)

onto_some : (x : ℕ) (parts : List (List ℕ)) → (p : List ℕ) × (ps : List (List ℕ)) × (onto_first x parts ≡ p ∷ ps)
onto_some x [] = (x ∷ [], [], refl)
onto_some x (p ∷ ps) = (x ∷ p, ps, refl)

-- there is a first part
pub parts_some : (c : ℕ) (text : List ℕ) → (p : List ℕ) × (ps : List (List ℕ)) × (parts_of c text ≡ p ∷ ps)
parts_some c [] = ([], [], refl)
parts_some c (x ∷ text) =
    elim (eqb x c) as (λ b. (p : List ℕ) × (ps : List (List ℕ)) × (cond b ([] ∷ parts_of c text) (onto_first x (parts_of c text)) ≡ p ∷ ps)) [
      | true ↦ ([], parts_of c text, refl)
      | false ↦ onto_some x (parts_of c text)
    ]

pub text_of_parts : (c : ℕ) (text : List ℕ) (parts : List (List ℕ)) → parts_of c text ≡ parts → text ≡ join_with_byte c parts
text_of_parts c text parts e = sym (join_with_byte-slice_split c text) ∙ ap (join_with_byte c) e

pub text_of_cut : (c : ℕ) (text front rest : List ℕ) → parts_of c text ≡ front ∷ parts_of c rest → text ≡ front ++ c ∷ rest
text_of_cut c text front rest e =
    let (p, ps, some) = parts_some c rest in
    let whole : text ≡ join_with_byte c (front ∷ parts_of c rest) = text_of_parts c text _ e in
    let rejoined : join_with_byte c (front ∷ parts_of c rest) ≡ front ++ c ∷ join_with_byte c (parts_of c rest) = rw some refl in
    whole ∙ rejoined ∙ ap (λ (t : List ℕ). front ++ c ∷ t) (join_with_byte-slice_split c rest)

cond_none_test : (b : Bool) (n : ℕ) → cond b (Some n) None ≡ None → b ≡ false
cond_none_test true n e = absurd cc
cond_none_test false n e = refl

cut_place : (c : ℕ) (text : List ℕ) (at : ℕ) → position (λ byte. eqb byte c) text ≡ Some at → (ltb (position_or_len (λ byte. eqb byte c) text) (length text) ≡ true) × (position_or_len (λ byte. eqb byte c) text ≡ at)
cut_place c text at e = cond_some _ _ _ e

-- the first separator cuts off the first part
pub parts_at : (c : ℕ) (text : List ℕ) (at : ℕ) → position (λ byte. eqb byte c) text ≡ Some at → (at < length text) × (parts_of c text ≡ take at text ∷ parts_of c (drop (at + 1) text))
parts_at c text at e =
    let (test, same) = cut_place c text at e in
    let within : position_or_len (λ byte. eqb byte c) text < length text = ltb-true _ _ test in
    (omega arith, rw (← same) (slice_split_first (λ byte. eqb byte c) text 0 within))

pub parts_whole : (c : ℕ) (text : List ℕ) → position (λ byte. eqb byte c) text ≡ None → parts_of c text ≡ text ∷ []
parts_whole c text e =
    let test : ltb (position_or_len (λ byte. eqb byte c) text) (length text) ≡ false = cond_none_test _ _ e in
    let past : length text ≤ position_or_len (λ byte. eqb byte c) text = ltb-false _ _ test in
    slice_split_none (λ byte. eqb byte c) text (λ k d h. fails_before_first (λ byte. eqb byte c) text k d (omega arith))
