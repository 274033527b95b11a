-- A row that is lowered by another, cells after cells.
use Rattle.std.proofs.Common.{◌≡◌, ℕ, zero, suc, ◌+◌, ◌<◌, ◌≤◌, ◌⊎◌, inl, inr, List, [], ◌∷◌, length, length-drop, length-set, min, get_or, set, take, drop, refl, sym, ap, ap₂, ◌∙◌, arith}
use Rattle.std.proofs.lemmas.Bool.{cases_eq}
use Rattle.std.proofs.lemmas.List.{get_or-set_other, get_or-set_same, get_or_default, length-take-le, set-get_or, set-set}
use Rattle.std.proofs.lemmas.Simd.{length-zip2}
use Rattle.std.proofs.Math.Seq.{drop-cons}
use Rattle.dist_rows.proofs.FrontLemmas.{drop_front, front_put}
use Rattle.dist_rows.proofs.RowLemmas.{rows_at, rows_set}
use Rattle.dist_rows.specs.Helps.Rows.{AreRows, RowSeen, fronted, relaxed_to, row_at}
use Rattle.dist_rows.specs.Squares.{lowered, sum_of}
use lib.Lanes.{chunk, put_chunk, zip2}

-- a row to read where there is none
abbrev pub none : RowSeen
none = record { cells = []; room = 0 }

-- ---- two lists side by side

zip_none : (f : ℕ → ℕ → ℕ) (xs : List ℕ) → zip2 f xs [] ≡ []
zip_none f [] = refl
zip_none f (x ∷ xs) = refl

zip_take : (f : ℕ → ℕ → ℕ) (k : ℕ) (xs ys : List ℕ) → zip2 f (take k xs) (take k ys) ≡ take k (zip2 f xs ys)
zip_take f zero xs ys = refl
zip_take f (suc k) [] ys = refl
zip_take f (suc k) (x ∷ xs) [] = refl
zip_take f (suc k) (x ∷ xs) (y ∷ ys) = ap (λ (l : List ℕ). f x y ∷ l) (zip_take f k xs ys)

zip_drop : (f : ℕ → ℕ → ℕ) (k : ℕ) (xs ys : List ℕ) → zip2 f (drop k xs) (drop k ys) ≡ drop k (zip2 f xs ys)
zip_drop f zero xs ys = refl
zip_drop f (suc k) [] ys = refl
zip_drop f (suc k) (x ∷ xs) [] = zip_none f (drop k xs)
zip_drop f (suc k) (x ∷ xs) (y ∷ ys) = zip_drop f k xs ys

pub length_lowered : (add : ℕ) (row other : List ℕ) → length row ≡ length other → length (lowered add row other) ≡ length row
length_lowered add row other same = length-zip2 (λ (d e : ℕ). min d (sum_of add e)) row other same

-- what lowers the next cells is what lowers the whole rows there
lowered_part : (k at add : ℕ) (row other now others : List ℕ) → drop at now ≡ drop at row → drop at others ≡ drop at other → lowered add (chunk at k now) (chunk at k others) ≡ take k (drop at (lowered add row other))
lowered_part k at add row other now others one two =
    let f : ℕ → ℕ → ℕ = λ d e. min d (sum_of add e) in
    ap₂ (λ (a b : List ℕ). lowered add (take k a) (take k b)) one two ∙ zip_take (λ (d e : ℕ). min d (sum_of add e)) k (drop at row) (drop at other) ∙ ap (take k) (zip_drop (λ (d e : ℕ). min d (sum_of add e)) at row other)

-- ---- rows of which one is lowered

-- the row that is lowered
abbrev lowered_row : ℕ → List RowSeen → ℕ → ℕ → ℕ → RowSeen
lowered_row at rows a add v = record { cells = fronted at (lowered add (row_at rows a).cells (row_at rows v).cells) (row_at rows a).cells; room = (row_at rows a).room }

-- no cell is lowered yet
pub relaxed_none : (rows : List RowSeen) (a add v : ℕ) → rows ≡ relaxed_to 0 rows a add v
relaxed_none rows a add v = sym (set-get_or rows a none)

-- behind the cells that were lowered every row is as before
behind_same : (at a add v : ℕ) (old : List RowSeen) → AreRows (length old) 0 old → a < length old → v < length old → at ≤ length old → (w : ℕ) → drop at (row_at (relaxed_to at old a add v) w).cells ≡ drop at (row_at old w).cells
behind_same at a add v old are first second within w = by (cases_eq w a)
  where
    by : ((w ≡ a) ⊎ (w ≡ a → ⊥)) → drop at (row_at (relaxed_to at old a add v) w).cells ≡ drop at (row_at old w).cells
    by (inl same) =
        let row : length (row_at old a).cells ≡ length old = (rows_at (length old) 0 old a none are first).cells in
        let other : length (row_at old v).cells ≡ length old = (rows_at (length old) 0 old v none are second).cells in
        let long : length (lowered add (row_at old a).cells (row_at old v).cells) ≡ length old = length_lowered add (row_at old a).cells (row_at old v).cells (row ∙ sym other) ∙ row in
        ap (λ (n : ℕ). drop at (row_at (relaxed_to at old a add v) n).cells) same
        ∙ ap (λ (r : RowSeen). drop at r.cells) (get_or-set_same old a (lowered_row at old a add v) none first)
        ∙ drop_front at (lowered add (row_at old a).cells (row_at old v).cells) (row_at old a).cells (omega (arith, long, within)) ∙ ap (λ (n : ℕ). drop at (row_at old n).cells) (sym same)
    by (inr other) = ap (λ (r : RowSeen). drop at r.cells) (get_or-set_other old a w (lowered_row at old a add v) none other)

-- the next cells of the row are lowered
pub relax_more : (k at a add v : ℕ) (old rows after : List RowSeen) (row : RowSeen) (others cells : List ℕ) → AreRows (length old) 0 old → a < length old → v < length old → at + k ≤ length old
    → rows ≡ relaxed_to at old a add v → others ≡ chunk at k (row_at rows v).cells → cells ≡ put_chunk at (row_at rows a).cells (lowered add (chunk at k (row_at rows a).cells) others)
    → row ≡ record { cells = cells; room = (row_at rows a).room } → after ≡ set rows a row
    → after ≡ relaxed_to (at + k) old a add v
relax_more k at a add v old rows after row others cells are first second within is read lower made wrote =
    let few : at ≤ length old = omega (arith, within) in
    let one : length (row_at old a).cells ≡ length old = (rows_at (length old) 0 old a none are first).cells in
    let two : length (row_at old v).cells ≡ length old = (rows_at (length old) 0 old v none are second).cells in
    let front : List ℕ = lowered add (row_at old a).cells (row_at old v).cells in
    let long : length (lowered add (row_at old a).cells (row_at old v).cells) ≡ length (row_at old a).cells = length_lowered add (row_at old a).cells (row_at old v).cells (one ∙ sym two) in
    let now : row_at rows a ≡ lowered_row at old a add v = ap (λ (l : List RowSeen). row_at l a) is ∙ get_or-set_same old a (lowered_row at old a add v) none first in
    let behind_row : drop at (row_at rows a).cells ≡ drop at (row_at old a).cells = ap (λ (l : List RowSeen). drop at (row_at l a).cells) is ∙ behind_same at a add v old are first second few a in
    let behind_other : drop at (row_at rows v).cells ≡ drop at (row_at old v).cells = ap (λ (l : List RowSeen). drop at (row_at l v).cells) is ∙ behind_same at a add v old are first second few v in
    let part : lowered add (chunk at k (row_at rows a).cells) others ≡ take k (drop at (lowered add (row_at old a).cells (row_at old v).cells))
    = ap (lowered add (chunk at k (row_at rows a).cells)) read ∙ lowered_part k at add (row_at old a).cells (row_at old v).cells (row_at rows a).cells (row_at rows v).cells behind_row behind_other in
    let size : length (lowered add (chunk at k (row_at rows a).cells) others) ≡ k
    = ap (λ (l : List ℕ). length l) part ∙ length-take-le k (drop at (lowered add (row_at old a).cells (row_at old v).cells)) (omega (arith, length-drop at (lowered add (row_at old a).cells (row_at old v).cells), long, one, within)) in
    let next : cells ≡ fronted (at + k) (lowered add (row_at old a).cells (row_at old v).cells) (row_at old a).cells
    = front_put k at (lowered add (row_at old a).cells (row_at old v).cells) (row_at old a).cells (row_at rows a).cells cells (lowered add (chunk at k (row_at rows a).cells) others)
    long (omega (arith, one, within)) size (ap (λ (r : RowSeen). r.cells) now) part lower in
    let new : row ≡ lowered_row (at + k) old a add v = made ∙ ap (λ (l : List ℕ). record { cells = l; room = (row_at rows a).room }) next
    ∙ ap (λ (r : RowSeen). record { cells = fronted (at + k) (lowered add (row_at old a).cells (row_at old v).cells) (row_at old a).cells; room = r.room }) now in
    wrote ∙ ap (set rows a) new ∙ ap (λ (l : List RowSeen). set l a (lowered_row (at + k) old a add v)) is ∙ set-set old a (lowered_row at old a add v) (lowered_row (at + k) old a add v)

-- the same, at whatever default the two rows were read
pub relax_step : (k at a add v : ℕ) (old rows after : List RowSeen) (row d e : RowSeen) (others : List ℕ) → AreRows (length old) 0 old → a < length old → v < length rows → at + k ≤ length rows
    → rows ≡ relaxed_to at old a add v → others ≡ chunk at k (get_or rows v e).cells
    → row ≡ record { cells = put_chunk at (get_or rows a d).cells (lowered add (chunk at k (get_or rows a d).cells) others); room = (get_or rows a d).room } → after ≡ set rows a row
    → after ≡ relaxed_to (at + k) old a add v
relax_step k at a add v old rows after row d e others are first second within is read made wrote =
    let size : length rows ≡ length old = ap (λ (l : List RowSeen). length l) is ∙ length-set old a (lowered_row at old a add v) in
    let one : get_or rows a d ≡ row_at rows a = get_or_default rows a d none (omega (arith, size, first)) in
    let two : get_or rows v e ≡ row_at rows v = get_or_default rows v e none second in
    relax_more k at a add v old rows after row others (put_chunk at (row_at rows a).cells (lowered add (chunk at k (row_at rows a).cells) others)) are first (omega (arith, size, second)) (omega (arith, size, within)) is
    (read ∙ ap (λ (r : RowSeen). chunk at k r.cells) two) refl
    (made ∙ ap (λ (r : RowSeen). record { cells = put_chunk at r.cells (lowered add (chunk at k r.cells) others); room = r.room }) one) wrote

-- ---- one cell

set_put : (list : List ℕ) (at y : ℕ) → set list at y ≡ put_chunk at list (y ∷ [])
set_put [] at y = refl
set_put (x ∷ list) zero y = ap (λ (l : List ℕ). y ∷ l) (put_none list)
  where
    put_none : (l : List ℕ) → l ≡ put_chunk 0 l []
    put_none [] = refl
    put_none (z ∷ l) = refl
set_put (x ∷ list) (suc at) y = ap (λ (l : List ℕ). x ∷ l) (set_put list at y)

chunk_one : (list : List ℕ) (at : ℕ) → at < length list → chunk at 1 list ≡ get_or list at 0 ∷ []
chunk_one list at within = ap (take 1) (drop-cons list at 0 within)

pub relax_one : (at a add v : ℕ) (old rows after : List RowSeen) (row d e : RowSeen) (other : ℕ) → AreRows (length old) 0 old → AreRows (length rows) 0 rows → a < length old → v < length rows → at < length rows
    → rows ≡ relaxed_to at old a add v → other ≡ get_or (get_or rows v e).cells at 0
    → row ≡ record { cells = set (get_or rows a d).cells at (min (get_or (get_or rows a d).cells at 0) (sum_of add other)); room = (get_or rows a d).room } → after ≡ set rows a row
    → after ≡ relaxed_to (at + 1) old a add v
relax_one at a add v old rows after row d e other are now first second within is read made wrote =
    let size : length rows ≡ length old = ap (λ (l : List RowSeen). length l) is ∙ length-set old a (lowered_row at old a add v) in
    let one : at < length (get_or rows a d).cells = omega (arith, (rows_at (length rows) 0 rows a d now (omega (arith, size, first))).cells, within) in
    let two : at < length (get_or rows v e).cells = omega (arith, (rows_at (length rows) 0 rows v e now second).cells, within) in
    let cells : set (get_or rows a d).cells at (min (get_or (get_or rows a d).cells at 0) (sum_of add other)) ≡ put_chunk at (get_or rows a d).cells (lowered add (chunk at 1 (get_or rows a d).cells) (other ∷ []))
    = set_put (get_or rows a d).cells at (min (get_or (get_or rows a d).cells at 0) (sum_of add other)) ∙ ap (λ (l : List ℕ). put_chunk at (get_or rows a d).cells (lowered add l (other ∷ []))) (sym (chunk_one (get_or rows a d).cells at one)) in
    relax_step 1 at a add v old rows after row d e (other ∷ []) are first second (omega (arith, within)) is (ap (λ (x : ℕ). x ∷ []) read ∙ sym (chunk_one (get_or rows v e).cells at two))
    (made ∙ ap (λ (l : List ℕ). record { cells = l; room = (get_or rows a d).room }) cells) wrote

-- ---- all rows stay as long as they are

pub rows_written : (n : ℕ) (rows : List RowSeen) (a : ℕ) (row d : RowSeen) → AreRows n 0 rows → a < length rows → length row.cells ≡ length (get_or rows a d).cells → AreRows n 0 (set rows a row)
rows_written n rows a row d are within same = rows_set n 0 rows a row are (record { cells = same ∙ (rows_at n 0 rows a d are within).cells; room = omega arith })
