-- What stands before the last item of a kind, behind one item more.
use Rattle.std.proofs.Common.{◌≡◌, ℕ, ◌+◌, ◌-◌, Bool, true, false, not, cond, List, [], ◌∷◌, ◌++◌, length, length-append, take, take_all, ap, ◌∙◌, arith}
use Rattle.std.specs.List.{before_last, prefix_len, suffix_len}
use Rattle.std.proofs.lemmas.List.{reverse-append, take-append-le}

pub front_of : {X : Type 0} (xs ys : List X) → take (length xs) (xs ++ ys) ≡ xs
front_of xs ys = take-append-le (length xs) xs ys (omega arith) ∙ take_all (length xs) xs (omega arith)

suffix_more : {X : Type 0} (p : X → Bool) (xs : List X) (x : X) → suffix_len p (xs ++ x ∷ []) ≡ cond (p x) (1 + suffix_len p xs) 0
suffix_more p xs x = ap (prefix_len p) (reverse-append xs (x ∷ []))

pub last_here : {X : Type 0} (p : X → Bool) (xs : List X) (x : X) → p x ≡ true → before_last p (xs ++ x ∷ []) ≡ xs
last_here {X} p xs x is =
    let none : suffix_len (λ (y : X). not (p y)) (xs ++ x ∷ []) ≡ 0 = suffix_more (λ (y : X). not (p y)) xs x ∙ ap (λ (b : Bool). cond (not b) (1 + suffix_len (λ (y : X). not (p y)) xs) 0) is in
    let size : length (xs ++ x ∷ []) - suffix_len (λ (y : X). not (p y)) (xs ++ x ∷ []) - 1 ≡ length xs = omega (arith, none, length-append xs (x ∷ [])) in
    ap (λ (n : ℕ). take n (xs ++ x ∷ [])) size ∙ front_of xs (x ∷ [])

pub last_before : {X : Type 0} (p : X → Bool) (xs : List X) (x : X) → p x ≡ false → before_last p (xs ++ x ∷ []) ≡ before_last p xs
last_before {X} p xs x is =
    let more : suffix_len (λ (y : X). not (p y)) (xs ++ x ∷ []) ≡ 1 + suffix_len (λ (y : X). not (p y)) xs = suffix_more (λ (y : X). not (p y)) xs x ∙ ap (λ (b : Bool). cond (not b) (1 + suffix_len (λ (y : X). not (p y)) xs) 0) is in
    let size : length (xs ++ x ∷ []) - suffix_len (λ (y : X). not (p y)) (xs ++ x ∷ []) - 1 ≡ length xs - suffix_len (λ (y : X). not (p y)) xs - 1 = omega (arith, more, length-append xs (x ∷ [])) in
    ap (λ (n : ℕ). take n (xs ++ x ∷ [])) size ∙ take-append-le (length xs - suffix_len (λ (y : X). not (p y)) xs - 1) xs (x ∷ []) (omega arith)
