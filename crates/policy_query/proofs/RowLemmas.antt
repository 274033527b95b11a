-- Rows that pass a test, gathered in turn.
use Rattle.std.proofs.Common.{◌≡◌, ℕ, ◌+◌, ◌<◌, Bool, true, false, cond, List, [], ◌∷◌, ◌++◌, append-nil, filter, get_or, length, take, sym, ap, ◌∙◌}
use Rattle.std.proofs.lemmas.List.Elements.{filter_more}

-- a row that passes is put behind the others
pub kept_row : {X : Type 0} (p : X → Bool) (xs : List X) (n : ℕ) (x : X) (old new : List X) → n < length xs → x ≡ get_or xs n x → p x ≡ true → old ≡ filter p (take n xs) → new ≡ old ++ x ∷ [] → new ≡ filter p (take (n + 1) xs)
kept_row {X} p xs n x old new within is passes so pushed =
    let here : get_or xs n x ≡ x = sym is in
    let test : p (get_or xs n x) ≡ true = ap p here ∙ passes in
    let more : filter p (take (n + 1) xs) ≡ filter p (take n xs) ++ x ∷ [] = filter_more p xs n x within ∙ (λ j. filter p (take n xs) ++ cond (test j) (here j ∷ []) []) in
    pushed ∙ ap (λ (l : List X). l ++ x ∷ []) so ∙ sym more

-- and one that does not is passed over
pub passed_row : {X : Type 0} (p : X → Bool) (xs : List X) (n : ℕ) (x : X) (old : List X) → n < length xs → x ≡ get_or xs n x → p x ≡ false → old ≡ filter p (take n xs) → old ≡ filter p (take (n + 1) xs)
passed_row p xs n x old within is fails so =
    let here : get_or xs n x ≡ x = sym is in
    let test : p (get_or xs n x) ≡ false = ap p here ∙ fails in
    let more : filter p (take (n + 1) xs) ≡ filter p (take n xs) ++ [] = filter_more p xs n x within ∙ (λ j. filter p (take n xs) ++ cond (test j) (here j ∷ []) []) in
    so ∙ sym (more ∙ append-nil (filter p (take n xs)))
