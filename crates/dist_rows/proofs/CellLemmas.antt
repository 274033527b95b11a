-- What each change of a square means for one cell.
use Rattle.std.proofs.Common.{◌≡◌, ◌≢◌, ℕ, zero, suc, ◌+◌, ◌-◌, ◌<◌, Bool, true, false, List, [], ◌∷◌, ◌++◌, length, map, min, get_or, set, replicate, refl, ap, ◌∙◌, arith, eqb-true}
use Rattle.std.specs.Prelude.{◌==◌, if◌then◌else◌}
use Rattle.std.specs.List.{AllByRecursion, swap_remove}
use Rattle.std.proofs.lemmas.Bool.{eqb-false}
use Rattle.std.proofs.lemmas.List.{get_or-replicate, get_or-set_other, get_or-set_same, get_or-take, get_or_append_left, get_or_at, get_or_default, length-map, length-replicate}
use Rattle.std.proofs.lemmas.Simd.{get_or-zip2}
use Rattle.dist_rows.proofs.FrontLemmas.{mapped_at}
use Rattle.dist_rows.proofs.SquareLemmas.{length_removed}
use Rattle.dist_rows.specs.Squares.{IsSquare, cell_of, cleared, dropped, lowered, relaxed, row_of, sum_of, widened, with_cell}

row_long : (n : ℕ) (cells : List (List ℕ)) (a : ℕ) → AllByRecursion (λ (row : List ℕ). length row ≡ n) cells → a < length cells → length (row_of cells a) ≡ n
row_long n [] a are within = absurd (omega arith)
row_long n (row ∷ cells) zero are within = are.0
row_long n (row ∷ cells) (suc a) are within = row_long n cells a are.1 (omega arith)

-- each row is as long as there are nodes
pub length_row : (cells : List (List ℕ)) (a : ℕ) → IsSquare cells → a < length cells → length (row_of cells a) ≡ length cells
length_row cells a are within = row_long (length cells) cells a are within

-- ---- one row is written

row_written : (cells : List (List ℕ)) (a : ℕ) (row : List ℕ) → a < length cells → row_of (set cells a row) a ≡ row
row_written cells a row within = get_or-set_same cells a row [] within

-- the other rows stay
cell_other : (cells : List (List ℕ)) (a i j : ℕ) (row : List ℕ) → i ≢ a → cell_of (set cells a row) i j ≡ cell_of cells i j
cell_other cells a i j row other = ap (λ (l : List ℕ). get_or l j 0) (get_or-set_other cells a i row [] other)

pub relaxed_own : (cells : List (List ℕ)) (a add v j : ℕ) → IsSquare cells → a < length cells → v < length cells → j < length cells → cell_of (relaxed cells a add v) a j ≡ min (cell_of cells a j) (sum_of add (cell_of cells v j))
relaxed_own cells a add v j are first second within =
    ap (λ (l : List ℕ). get_or l j 0) (row_written cells a (lowered add (row_of cells a) (row_of cells v)) first)
    ∙ get_or-zip2 (λ (d e : ℕ). min d (sum_of add e)) (row_of cells a) (row_of cells v) j 0 0 0 (omega (arith, length_row cells a are first, within)) (omega (arith, length_row cells v are second, within))

pub relaxed_other : (cells : List (List ℕ)) (a add v i j : ℕ) → i ≢ a → cell_of (relaxed cells a add v) i j ≡ cell_of cells i j
relaxed_other cells a add v i j other = cell_other cells a i j (lowered add (row_of cells a) (row_of cells v)) other

pub with_cell_own : (cells : List (List ℕ)) (a b value : ℕ) → IsSquare cells → a < length cells → b < length cells → cell_of (with_cell cells a b value) a b ≡ value
with_cell_own cells a b value are first second =
    ap (λ (l : List ℕ). get_or l b 0) (row_written cells a (set (row_of cells a) b value) first) ∙ get_or-set_same (row_of cells a) b value 0 (omega (arith, length_row cells a are first, second))

pub with_cell_column : (cells : List (List ℕ)) (a b value j : ℕ) → a < length cells → j ≢ b → cell_of (with_cell cells a b value) a j ≡ cell_of cells a j
with_cell_column cells a b value j within other =
    ap (λ (l : List ℕ). get_or l j 0) (row_written cells a (set (row_of cells a) b value) within) ∙ get_or-set_other (row_of cells a) b j value 0 other

pub with_cell_row : (cells : List (List ℕ)) (a b value i j : ℕ) → i ≢ a → cell_of (with_cell cells a b value) i j ≡ cell_of cells i j
with_cell_row cells a b value i j other = cell_other cells a i j (set (row_of cells a) b value) other

pub cleared_own : (cells : List (List ℕ)) (a : ℕ) → a < length cells → cell_of (cleared cells a) a a ≡ 0
cleared_own cells a within =
    ap (λ (l : List ℕ). get_or l a 0) (row_written cells a (set (replicate (length cells) 255) a 0) within) ∙ get_or-set_same (replicate (length cells) 255) a 0 0 (omega (arith, length-replicate {A = ℕ} (length cells) 255, within))

pub cleared_column : (cells : List (List ℕ)) (a j : ℕ) → a < length cells → j < length cells → j ≢ a → cell_of (cleared cells a) a j ≡ 255
cleared_column cells a j first second other =
    ap (λ (l : List ℕ). get_or l j 0) (row_written cells a (set (replicate (length cells) 255) a 0) first) ∙ get_or-set_other (replicate (length cells) 255) a j 0 0 other ∙ get_or-replicate (length cells) j 255 0 second

pub cleared_other : (cells : List (List ℕ)) (a i j : ℕ) → i ≢ a → cell_of (cleared cells a) i j ≡ cell_of cells i j
cleared_other cells a i j other = cell_other cells a i j (set (replicate (length cells) 255) a 0) other

-- ---- a node more

row_mapped : (f : List ℕ → List ℕ) (cells : List (List ℕ)) (i : ℕ) → i < length cells → row_of (map f cells) i ≡ f (row_of cells i)
row_mapped f cells i within = get_or_default (map f cells) i [] (f []) (omega (arith, length-map cells f, within)) ∙ mapped_at f cells i [] within

row_kept : (cells : List (List ℕ)) (i : ℕ) → i < length cells → row_of (widened cells) i ≡ row_of cells i ++ 255 ∷ []
row_kept cells i within =
    get_or_append_left (map (λ (row : List ℕ). row ++ 255 ∷ []) cells) ((replicate (length cells) 255 ++ 0 ∷ []) ∷ []) [] i (omega (arith, length-map cells (λ (row : List ℕ). row ++ 255 ∷ []), within))
    ∙ row_mapped (λ (row : List ℕ). row ++ 255 ∷ []) cells i within

row_new : (cells : List (List ℕ)) → row_of (widened cells) (length cells) ≡ replicate (length cells) 255 ++ 0 ∷ []
row_new cells = get_or_at (map (λ (row : List ℕ). row ++ 255 ∷ []) cells) (replicate (length cells) 255 ++ 0 ∷ []) [] [] (length cells) (length-map cells (λ (row : List ℕ). row ++ 255 ∷ []))

pub widened_old : (cells : List (List ℕ)) (i j : ℕ) → IsSquare cells → i < length cells → j < length cells → cell_of (widened cells) i j ≡ cell_of cells i j
widened_old cells i j are first second =
    ap (λ (l : List ℕ). get_or l j 0) (row_kept cells i first) ∙ get_or_append_left (row_of cells i) (255 ∷ []) 0 j (omega (arith, length_row cells i are first, second))

pub widened_column : (cells : List (List ℕ)) (i : ℕ) → IsSquare cells → i < length cells → cell_of (widened cells) i (length cells) ≡ 255
widened_column cells i are within = ap (λ (l : List ℕ). get_or l (length cells) 0) (row_kept cells i within) ∙ get_or_at (row_of cells i) 255 [] 0 (length cells) (length_row cells i are within)

pub widened_row : (cells : List (List ℕ)) (j : ℕ) → j < length cells → cell_of (widened cells) (length cells) j ≡ 255
widened_row cells j within =
    ap (λ (l : List ℕ). get_or l j 0) (row_new cells) ∙ get_or_append_left (replicate (length cells) 255) (0 ∷ []) 0 j (omega (arith, length-replicate {A = ℕ} (length cells) 255, within)) ∙ get_or-replicate (length cells) j 255 0 within

pub widened_own : (cells : List (List ℕ)) → cell_of (widened cells) (length cells) (length cells) ≡ 0
widened_own cells = ap (λ (l : List ℕ). get_or l (length cells) 0) (row_new cells) ∙ get_or_at (replicate (length cells) 255) 0 [] 0 (length cells) (length-replicate (length cells) 255)

-- ---- a node less

-- where a node stood before another was dropped: the last one took its place
abbrev pub place_before : ℕ → ℕ → ℕ → ℕ
place_before at size i = if i == at then size - 1 else i

item_moved : {A : Type 0} (list : List A) (at i : ℕ) (d : A) → i + 1 < length list → at < length list → get_or (swap_remove list at d) i d ≡ get_or list (place_before at (length list) i) d
item_moved {A} list at i d first second =
    get_or-take (length list - 1) (set list at (get_or list (length list - 1) d)) i d (omega (arith, first)) ∙ by (i == at) refl
  where
    by : (own : Bool) → (i == at) ≡ own → get_or (set list at (get_or list (length list - 1) d)) i d ≡ get_or list (if own then length list - 1 else i) d
    by true is = ap (λ (n : ℕ). get_or (set list at (get_or list (length list - 1) d)) n d) (eqb-true i at is) ∙ get_or-set_same list at (get_or list (length list - 1) d) d second
    by false is = get_or-set_other list at i (get_or list (length list - 1) d) d (eqb-false i at is)

place_within : (at size i : ℕ) → 0 < size → i < size → place_before at size i < size
place_within at size i some within = by (i == at)
  where
    by : (own : Bool) → (if own then size - 1 else i) < size
    by true = omega (arith, some)
    by false = within

pub dropped_moved : (cells : List (List ℕ)) (at i j : ℕ) → IsSquare cells → at < length cells → i + 1 < length cells → j + 1 < length cells
    → cell_of (dropped at cells) i j ≡ cell_of cells (place_before at (length cells) i) (place_before at (length cells) j)
dropped_moved cells at i j are within first second =
    let place : place_before at (length cells) i < length cells = place_within at (length cells) i (omega (arith, within)) (omega (arith, first)) in
    let long : length (row_of cells (place_before at (length cells) i)) ≡ length cells = length_row cells (place_before at (length cells) i) are place in
    let row : row_of (dropped at cells) i ≡ swap_remove (row_of cells (place_before at (length cells) i)) at 0
    = row_mapped (λ (row : List ℕ). swap_remove row at 0) (swap_remove cells at []) i (omega (arith, length_removed cells at [], first))
    ∙ ap (λ (l : List ℕ). swap_remove l at 0) (item_moved cells at i [] first within) in
    ap (λ (l : List ℕ). get_or l j 0) row
    ∙ item_moved (row_of cells (place_before at (length cells) i)) at j 0 (omega (arith, long, second)) (omega (arith, long, within))
    ∙ ap (λ (n : ℕ). get_or (row_of cells (place_before at (length cells) i)) (place_before at n j) 0) long
