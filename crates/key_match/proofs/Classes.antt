-- The items of a class, read from any place.
use Rattle.std.proofs.Common.{◌≡◌, ℕ, ◌+◌, ◌<◌, List, [], ◌∷◌, length, get_or, drop, refl, ap, sym, ◌∙◌, ⊎_elim, arith, add-one, drop-cons, eq-eqb, length-drop}
use Rattle.std.proofs.lemmas.Bool.Decides.{eqb_tells}
use Rattle.std.proofs.lemmas.List.{get_or-drop}
use Rattle.key_match.specs.Patterns.{ranges_of}

open_at : (xs : List ℕ) (k : ℕ) → k < length xs → drop k xs ≡ get_or xs k 0 ∷ drop (k + 1) xs
open_at xs k h = rw (add-one, drop-cons xs k 0) refl

dash_range : (a b c : ℕ) (rest : List ℕ) → b ≡ 45 → ranges_of (a ∷ b ∷ c ∷ rest) ≡ record { first = a; last = c } ∷ ranges_of rest
unfolding ranges_of
dash_range a b c rest h = rw (eq-eqb b 45 h)

one_byte : (a : ℕ) (rest : List ℕ) → (1 < length rest → get_or rest 0 0 ≡ 45 → ⊥) → ranges_of (a ∷ rest) ≡ record { first = a; last = a } ∷ ranges_of rest
unfolding ranges_of
one_byte a [] h = refl
one_byte a (b ∷ []) h = refl
one_byte a (b ∷ c ∷ rest) h = ⊎_elim (λ k. absurd (h (omega arith) k.1)) (λ k. rw k.0) (eqb_tells b 45)

pub ranges_of-range : (at : ℕ) (items : List ℕ) → at + 2 < length items → get_or items (at + 1) 0 ≡ 45 → ranges_of (drop at items) ≡ record { first = get_or items at 0; last = get_or items (at + 2) 0 } ∷ ranges_of (drop (at + 3) items)
ranges_of-range at items h dash =
    let one : drop at items ≡ get_or items at 0 ∷ drop (at + 1) items = open_at items at (omega arith) in
    let two : drop (at + 1) items ≡ get_or items (at + 1) 0 ∷ drop (at + 1 + 1) items = open_at items (at + 1) (omega arith) in
    let e2 : at + 1 + 1 ≡ at + 2 = omega arith in
    let three : drop (at + 2) items ≡ get_or items (at + 2) 0 ∷ drop (at + 2 + 1) items = open_at items (at + 2) h in
    let e3 : at + 2 + 1 ≡ at + 3 = omega arith in
    let third = three ∙ ap (λ n. get_or items (at + 2) 0 ∷ drop n items) e3 in
    let second = two ∙ ap (λ n. get_or items (at + 1) 0 ∷ drop n items) e2 ∙ ap (λ xs. get_or items (at + 1) 0 ∷ xs) third in
    ap ranges_of (one ∙ ap (λ xs. get_or items at 0 ∷ xs) second)
    ∙ dash_range (get_or items at 0) (get_or items (at + 1) 0) (get_or items (at + 2) 0) (drop (at + 3) items) dash

pub ranges_of-one : (at : ℕ) (items : List ℕ) → at < length items → (at + 2 < length items → get_or items (at + 1) 0 ≡ 45 → ⊥) → ranges_of (drop at items) ≡ record { first = get_or items at 0; last = get_or items at 0 } ∷ ranges_of (drop (at + 1) items)
ranges_of-one at items h other =
    ap ranges_of (open_at items at h)
    ∙ one_byte (get_or items at 0) (drop (at + 1) items)
    (λ long dash.
    let there : get_or items (at + 1) 0 ≡ get_or (drop (at + 1) items) 0 0 =
    ap (λ n. get_or items n 0) (let e : at + 1 ≡ at + 1 + 0 = omega arith in e) ∙ sym (get_or-drop (at + 1) items 0 0) in
    other (omega (arith, length-drop {A = ℕ})) (there ∙ dash))
