-- Beginnings of one list.
use Rattle.std.proofs.Common.{◌≡◌, ◌⊎◌, inl, inr, ℕ, ◌+◌, ◌≤◌, ◌<◌, leb, drop, take, Bool, true, false, MatchBool, List, [], ◌∷◌, ◌++◌, length, refl, ap, sym, ◌∙◌, arith, append_assoc}
use Rattle.std.proofs.lemmas.List.{append-nil}
use Rattle.std.proofs.lemmas.Bool.Decides.{nat_tests}
use mathlib.Core.List.{IsPrefix}

-- each list begins with itself
pub prefix_self : {A : Type 0} (xs : List A) → IsPrefix xs xs
prefix_self xs = ([], append-nil xs)

pub prefix_trans : {A : Type 0} (xs ys zs : List A) → IsPrefix xs ys → IsPrefix ys zs → IsPrefix xs zs
prefix_trans xs ys zs p q = (p.0 ++ q.0, sym (append_assoc xs p.0 q.0) ∙ (ap (λ w. w ++ q.0) p.1 ∙ q.1))

-- of two beginnings of one list the shorter begins the longer
pub prefix_shorter : {A : Type 0} (xs ys zs : List A) → IsPrefix xs zs → IsPrefix ys zs → length xs ≤ length ys → IsPrefix xs ys
prefix_shorter [] ys zs p q le = (ys, refl)
prefix_shorter (x ∷ xs) [] zs p q le = absurd (omega arith)
prefix_shorter (x ∷ xs) (y ∷ ys) [] p q le = absurd (cc (p.1))
prefix_shorter (x ∷ xs) (y ∷ ys) (z ∷ zs) p q le =
    let heads : x ≡ y = cc (p.1, q.1) in
    let rest = prefix_shorter xs ys zs (p.0, cc (p.1)) (q.0, cc (q.1)) (omega arith) in
    (rest.0, cc (heads, rest.1))

-- a beginning as long as the whole is the whole
pub prefix_whole : {A : Type 0} (xs ys : List A) → IsPrefix xs ys → length ys ≤ length xs → xs ≡ ys
prefix_whole [] [] p le = refl
prefix_whole [] (y ∷ ys) p le = absurd (omega arith)
prefix_whole (x ∷ xs) [] p le = absurd (cc (p.1))
prefix_whole (x ∷ xs) (y ∷ ys) p le =
    let rest = prefix_whole xs ys (p.0, cc (p.1)) (omega arith) in cc (p.1, rest)

-- a list that is one item longer is the beginning and that item
pub one_more : {A : Type 0} (xs ys : List A) → IsPrefix xs ys → length ys ≡ length xs + 1 → (x : A) × (ys ≡ xs ++ x ∷ [])
one_more [] [] p n = absurd (omega (arith, n))
one_more [] (y ∷ []) p n = (y, refl)
one_more [] (y ∷ z ∷ ys) p n = absurd (omega (arith, n))
one_more (x ∷ xs) [] p n = absurd (cc (p.1))
one_more (x ∷ xs) (y ∷ ys) p n =
    let r = one_more xs ys (p.0, cc (p.1)) (omega (arith, n)) in
    let heads : x ≡ y = cc (p.1) in
    (r.0, cc (heads, r.1))

by_test : {A : Type 0} (xs ys zs : List A) → IsPrefix xs zs → IsPrefix ys zs → (a b : ℕ) → a ≡ length xs → b ≡ length ys
    → (t : Bool) → leb a b ≡ t → MatchBool t (IsPrefix xs ys) (IsPrefix ys xs)
by_test xs ys zs p q a b m n true is = let le : a ≤ b = grind (arith, nat_tests) in prefix_shorter xs ys zs p q (omega (arith, le, m, n))
by_test xs ys zs p q a b m n false is = let le : b < a = grind (arith, nat_tests) in prefix_shorter ys xs zs q p (omega (arith, le, m, n))

-- of two beginnings of one list, told by their lengths
pub by_length : {A : Type 0} (xs ys zs : List A) → IsPrefix xs zs → IsPrefix ys zs → (a b : ℕ) → a ≡ length xs → b ≡ length ys
    → MatchBool (leb a b) (IsPrefix xs ys) (IsPrefix ys xs)
by_length xs ys zs p q a b m n = by_test xs ys zs p q a b m n (leb a b) refl

pub match_more : (t : Bool) (P Q R S : Type 0) → (P → R) → (Q → S) → MatchBool t P Q → MatchBool t R S
match_more true P Q R S f g h = f h
match_more false P Q R S f g h = g h

-- a beginning is the first so many of the whole
pub first_all : {A : Type 0} (xs ys : List A) → IsPrefix xs ys → xs ≡ take (length xs) ys
first_all [] ys p = refl
first_all (x ∷ xs) [] p = absurd (cc (p.1))
first_all (x ∷ xs) (y ∷ ys) p =
    let rest : xs ≡ take (length xs) ys = first_all xs ys (p.0, cc (p.1)) in
    let heads : x ≡ y = cc (p.1) in
    cc (heads, rest)

-- a beginning and the rest
pub rest_all : {A : Type 0} (xs ys : List A) → IsPrefix xs ys → xs ++ drop (length xs) ys ≡ ys
rest_all [] ys p = refl
rest_all (x ∷ xs) [] p = absurd (cc (p.1))
rest_all (x ∷ xs) (y ∷ ys) p =
    let rest : xs ++ drop (length xs) ys ≡ ys = rest_all xs ys (p.0, cc (p.1)) in
    let heads : x ≡ y = cc (p.1) in
    cc (heads, rest)

-- a beginning of a list with one item more is one of the list, or all of it
pub one_less : {A : Type 0} (xs ys : List A) (y : A) → IsPrefix xs (ys ++ y ∷ []) → IsPrefix xs ys ⊎ (xs ≡ ys ++ y ∷ [])
one_less [] ys y p = inl (ys, refl)
one_less (x ∷ []) [] y p = let same : x ≡ y = cc (p.1) in inr (cc same)
one_less (x ∷ z ∷ xs) [] y p = absurd (cc (p.1))
one_less (x ∷ xs) (z ∷ ys) y p = by (one_less xs ys y (p.0, cc (p.1)))
  where
    heads : x ≡ z
    heads = cc (p.1)

    by : IsPrefix xs ys ⊎ (xs ≡ ys ++ y ∷ []) → IsPrefix (x ∷ xs) (z ∷ ys) ⊎ (x ∷ xs ≡ z ∷ ys ++ y ∷ [])
    by (inl q) = let rest = q.1 in inl (q.0, cc (heads, rest))
    by (inr e) = inr (cc (heads, e))
