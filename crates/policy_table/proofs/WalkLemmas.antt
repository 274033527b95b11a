-- Loops over the rows of a table: what is left of them is what stands from a place on.
use Rattle.std.proofs.Common.{◌≡◌, ℕ, zero, suc, ◌+◌, ◌<◌, ◌≤◌, List, [], ◌∷◌, length, get_or, drop, slice_get, Some, sym, ap, ◌∙◌, arith}

-- the row at a place, and what is left behind it
pub record IsRow {X : Type 0} (rows : List X) (n : ℕ) (row : X) (left : List X) : Type 0 where
  pub within : n < length rows
  pub here : slice_get rows n ≡ Some row
  pub is : row ≡ get_or rows n row
  pub behind : left ≡ drop (n + 1) rows

one_more : (n : ℕ) → suc n ≡ n + 1
one_more n = omega arith

-- the next row of what is left
pub next_row : {X : Type 0} (rows left rest : List X) (n : ℕ) (row : X) → left ≡ drop n rows → left ≡ row ∷ rest → IsRow rows n row rest
next_row [] left rest zero row from parts = absurd cc
next_row [] left rest (suc n) row from parts = absurd cc
next_row (x ∷ xs) left rest zero row from parts =
    let whole : row ∷ rest ≡ x ∷ xs = sym parts ∙ from in
    let same : row ≡ x = ap (λ l. get_or l 0 row) whole in
    record {
      within = omega arith;
      here = ap Some (sym same);
      is = same;
      behind = ap (drop 1) whole ∙ ap (λ k. drop k (x ∷ xs)) (one_more zero);
    }
next_row (x ∷ xs) left rest (suc n) row from parts =
    let at = next_row xs left rest n row from parts in
    record {
      within = omega (arith, at.within);
      here = at.here;
      is = at.is;
      behind = at.behind ∙ ap (λ k. drop k (x ∷ xs)) (one_more (n + 1) ∙ ap (λ k. k + 1) (sym (one_more n)));
    }

-- where none is left the place is past them
pub no_more_rows : {X : Type 0} (rows left : List X) (n : ℕ) → left ≡ drop n rows → left ≡ [] → length rows ≤ n
no_more_rows [] left n from none = omega arith
no_more_rows (x ∷ xs) left zero from none = absurd cc
no_more_rows (x ∷ xs) left (suc n) from none = omega (arith, no_more_rows xs left n from none)
