-- What is kept of a line, and where it ends.
use Rattle.std.proofs.Common.{◌≡◌, ℕ, zero, suc, ◌+◌, ◌-◌, ◌<◌, ◌≤◌, min, List, [], ◌∷◌, ◌++◌, length, take, drop, drop-cons, get_or, eqb, eqb-true, Some, refl, sym, ap, ◌∙◌, append-nil, arith}
use Rattle.std.specs.Prelude.{position}
use Rattle.std.proofs.Math.Seq.{take-append-add}
use Rattle.std.proofs.lemmas.List as list
use Rattle.std.proofs.lemmas.List.{length-take, take_min, take-append-drop}
use Rattle.std.proofs.lemmas.List.Quantifiers.{position-Some}
use Rattle.item_stream.specs.Lines.{kept}

-- the front of a front and more
take_twice : (n : ℕ) (a b : List ℕ) → take n (take n a ++ b) ≡ take n (a ++ b)
take_twice zero a b = refl
take_twice (suc n) [] b = refl
take_twice (suc n) (x ∷ a) b = ap (λ (t : List ℕ). x ∷ t) (take_twice n a b)

-- as many bytes more as there is room for
front_more : (n count : ℕ) (line more : List ℕ) → length line ≤ n → count ≡ min (length more) (n - length line) → line ++ take count more ≡ take n (line ++ more)
front_more n count line more within is =
    let same : count ≡ min (n - length line) (length more) = omega (arith, is) in
    let all : length line + (n - length line) ≡ n = omega (arith, within) in
    ap (λ (k : ℕ). line ++ take k more) same ∙ ap (λ (t : List ℕ). line ++ t) (take_min (n - length line) more) ∙ sym (take-append-add line more (n - length line)) ∙ ap (λ (k : ℕ). take k (line ++ more)) all

pub kept_more : (count : ℕ) (line more : List ℕ) → length line ≤ 65537 → count ≡ min (length more) (65537 - length line) → line ++ take count more ≡ kept (line ++ more)
unfolding kept
kept_more count line more within is = front_more 65537 count line more within is

pub kept_within : (line : List ℕ) → length (kept line) ≤ 65537
unfolding kept
kept_within line = omega (arith, length-take 65537 line)

-- a line that is short enough is kept whole
pub kept_short : (line : List ℕ) → length line ≤ 65537 → kept line ≡ line
unfolding kept
kept_short line within = list.take_all 65537 line within

-- of what is kept and more the same is kept
pub kept_on : (line more : List ℕ) → kept (kept line ++ more) ≡ kept (line ++ more)
unfolding kept
kept_on line more = take_twice 65537 line more

pub kept_twice : (line : List ℕ) → kept (kept line) ≡ kept line
kept_twice line = ap kept (sym (append-nil (kept line))) ∙ kept_on line [] ∙ ap kept (append-nil line)

-- a piece is cut at its first LF
pub cut_there : (piece : List ℕ) (at : ℕ) → position (λ b. eqb b 10) piece ≡ Some at → piece ≡ take at piece ++ 10 ∷ drop (at + 1) piece
cut_there piece at found =
    let some = position-Some (λ b. eqb b 10) piece at 0 found in
    let is : get_or piece at 0 ≡ 10 = eqb-true (get_or piece at 0) 10 some.1 in
    let next : suc at ≡ at + 1 = omega arith in
    sym (take-append-drop at piece) ∙ ap (λ (t : List ℕ). take at piece ++ t) (drop-cons piece at 0 some.0 ∙ ap (λ (x : ℕ). x ∷ drop (suc at) piece) is ∙ ap (λ (n : ℕ). 10 ∷ drop n piece) next)

pub cut_within : (piece : List ℕ) (at : ℕ) → position (λ b. eqb b 10) piece ≡ Some at → at < length piece
cut_within piece at found = (position-Some (λ b. eqb b 10) piece at 0 found).0
