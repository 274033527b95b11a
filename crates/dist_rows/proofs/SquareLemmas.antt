-- What every square keeps through its changes, and what these come to.
use Rattle.std.proofs.Common.{◌≡◌, ℕ, ◌+◌, ◌-◌, ◌<◌, ◌≤◌, List, [], ◌∷◌, ◌++◌, length, length-append, length-set, length-take-le, map, get_or, set, take, replicate, max, refl, sym, ap, ap₂, subst, ◌∙◌, arith}
use Rattle.std.specs.List.{swap_remove}
use Rattle.std.proofs.lemmas.List.{length-map, length-replicate, map-append, map-set, set-get_or, take-map, take_at, take_more_set}
use Rattle.dist_rows.proofs.RowLemmas.{cells_at, cells_alike, rows_at, rows_behind, rows_both, rows_front, rows_map, rows_set, rows_weaker}
use Rattle.dist_rows.specs.Helps.Rows.{AreRows, IsKept, IsRow, RowSeen, cells_of, with_last, without_cell}
use Rattle.dist_rows.specs.Squares.{IsSquare, dropped, most_nodes, row_of, widened}

-- ---- room for cells

-- a row in the place of one with the same cells and no more room
pub same_cells : (rows : List RowSeen) (at : ℕ) (row d : RowSeen) → at < length rows → row.cells ≡ (get_or rows at d).cells → cells_of (set rows at row) ≡ cells_of rows
same_cells rows at row d within same =
    map-set (λ (r : RowSeen). r.cells) rows at row ∙ ap (set (cells_of rows) at) (same ∙ sym (cells_at rows at d within)) ∙ set-get_or (cells_of rows) at []

pub more_room : (size most : ℕ) (rows : List RowSeen) (at : ℕ) (row d : RowSeen) → at < length rows → row.cells ≡ (get_or rows at d).cells → (get_or rows at d).room ≤ row.room → AreRows size most rows → AreRows size most (set rows at row)
more_room size most rows at row d within same more are =
    let one = rows_at size most rows at d are within in
    rows_set size most rows at row are (record { cells = ap (λ (l : List ℕ). length l) same ∙ one.cells; room = omega (arith, one.room, more) })

pub room_next : (size most room : ℕ) (rows : List RowSeen) (at : ℕ) (row d : RowSeen) → at < length rows → row.cells ≡ (get_or rows at d).cells → room ≤ row.room → AreRows size most rows → AreRows size room (take at rows)
    → AreRows size room (take (at + 1) (set rows at row))
room_next size most room rows at row d within same enough are before =
    let one = rows_at size most rows at d are within in
    subst (AreRows size room) (sym (take_more_set rows at row within)) (rows_both size room (take at rows) (row ∷ []) before (record { cells = ap (λ (l : List ℕ). length l) same ∙ one.cells; room = enough }, tt))

-- ---- what is kept

kept_by : (n m : ℕ) (rows free : List RowSeen) (places : ℕ) → length rows ≡ n → length free ≡ m → AreRows n (n + m) rows → AreRows 0 (n + m) free → n + m ≤ places → n + m ≤ most_nodes → IsKept rows free places
kept_by n m rows free places one two are unused within few = record {
  rows = subst (λ (k : ℕ). AreRows k (k + length free) rows) (sym one) (subst (λ (k : ℕ). AreRows n (n + k) rows) (sym two) are);
  free = subst (λ (k : ℕ). AreRows 0 (k + length free) free) (sym one) (subst (λ (k : ℕ). AreRows 0 (n + k) free) (sym two) unused);
  within = omega (arith, one, two, within);
  few = omega (arith, one, two, few);
}

pub kept_set : (rows free : List RowSeen) (places a : ℕ) (row d : RowSeen) → IsKept rows free places → a < length rows → length row.cells ≡ length (get_or rows a d).cells → row.room ≡ (get_or rows a d).room → IsKept (set rows a row) free places
kept_set rows free places a row d kept within same room =
    let one = rows_at (length rows) (length rows + length free) rows a d kept.rows within in
    kept_by (length rows) (length free) (set rows a row) free places (length-set rows a row) refl
    (rows_set (length rows) (length rows + length free) rows a row kept.rows (record { cells = same ∙ one.cells; room = omega (arith, one.room, room) })) kept.free kept.within kept.few

-- ---- more room

pub kept_room : (rows free more unused : List RowSeen) (places after : ℕ) → IsKept rows free places → length more ≡ length rows → length unused ≡ length free
    → ((size most : ℕ) → AreRows size most rows → AreRows size most more) → ((size most : ℕ) → AreRows size most free → AreRows size most unused) → places ≤ after → IsKept more unused after
kept_room rows free more unused places after kept one two used others wider =
    kept_by (length rows) (length free) more unused after one two (used (length rows) (length rows + length free) kept.rows) (others 0 (length rows + length free) kept.free) (omega (arith, kept.within, wider)) kept.few

pub kept_added : (rows free more unused : List RowSeen) (places after count total : ℕ) → IsKept rows free places → length more ≡ length rows → AreRows (length rows) total more → AreRows 0 total unused → total ≡ length rows + max count (length free)
    → length unused ≤ max count (length free) → places ≤ after → length rows + count ≤ after → length rows + count ≤ most_nodes → IsKept more unused after
kept_added rows free more unused places after count total kept one used others sum few wider fits allowed =
    kept_by (length rows) (length unused) more unused after one refl (rows_weaker (length rows) total (length rows + length unused) (omega (arith, sum, few)) more used)
    (rows_weaker 0 total (length rows + length unused) (omega (arith, sum, few)) unused others) (omega (arith, few, fits, wider, kept.within)) (omega (arith, few, allowed, kept.few))

-- ---- a node more

take_front : {A : Type 0} (xs ys : List A) → take (length xs) (xs ++ ys) ≡ xs
take_front xs ys = take_at xs ys (length xs) refl

pub opened_is : (n room : ℕ) (rows : List RowSeen) (last : RowSeen) → n ≡ length rows → last ≡ record { cells = replicate n 255 ++ 0 ∷ []; room = room } → last ≡ record { cells = replicate (length rows) 255 ++ 0 ∷ []; room = room }
opened_is n room rows last is opened = subst (λ (k : ℕ). last ≡ record { cells = replicate k 255 ++ 0 ∷ []; room = room }) is opened

pub kept_more : (rows free after rest : List RowSeen) (places : ℕ) (row last : RowSeen) → IsKept rows free places → free ≡ rest ++ row ∷ [] → last ≡ record { cells = replicate (length rows) 255 ++ 0 ∷ []; room = row.room }
    → after ≡ map (with_last 255) rows ++ last ∷ [] → IsKept after rest places
kept_more rows free after rest places row last kept parts opened made =
    let size : length free ≡ length rest + 1 = ap (λ (l : List RowSeen). length l) parts ∙ length-append rest (row ∷ []) in
    let one : length after ≡ length rows + 1 = ap (λ (l : List RowSeen). length l) made ∙ length-append (map (with_last 255) rows) (last ∷ []) ∙ ap (λ (k : ℕ). k + 1) (length-map rows (with_last 255)) in
    let both : length rows + length free ≡ length rows + 1 + length rest = omega (arith, size) in
    let unused : AreRows 0 (length rows + 1 + length rest) (rest ++ row ∷ []) = subst (λ (k : ℕ). AreRows 0 k (rest ++ row ∷ [])) both (subst (AreRows 0 (length rows + length free)) parts kept.free) in
    let used : AreRows (length rows + 1) (length rows + 1 + length rest) (map (with_last 255) rows)
    = rows_map (with_last 255) (length rows) (length rows + length free) (length rows + 1) (length rows + 1 + length rest)
    (λ r is. record { cells = length-append r.cells (255 ∷ []) ∙ ap (λ (k : ℕ). k + 1) is.cells; room = omega (arith, is.room, both) }) rows kept.rows in
    let room : IsRow 0 (length rows + 1 + length rest) row = (rows_behind 0 (length rows + 1 + length rest) rest (row ∷ []) unused).0 in
    let new : IsRow (length rows + 1) (length rows + 1 + length rest) last = record {
      cells = ap (λ (r : RowSeen). length r.cells) opened ∙ length-append (replicate (length rows) 255) (0 ∷ []) ∙ ap (λ (k : ℕ). k + 1) (length-replicate (length rows) 255);
      room = omega (arith, room.room, ap (λ (r : RowSeen). r.room) opened);
    } in
    kept_by (length rows + 1) (length rest) after rest places one refl
    (subst (AreRows (length rows + 1) (length rows + 1 + length rest)) (sym made) (rows_both (length rows + 1) (length rows + 1 + length rest) (map (with_last 255) rows) (last ∷ []) used (new, tt)))
    (subst (λ (l : List RowSeen). AreRows 0 (length rows + 1 + length rest) l) (take_front rest (row ∷ [])) (rows_front 0 (length rows + 1 + length rest) (length rest) (rest ++ row ∷ []) unused))
    (omega (arith, both, kept.within)) (omega (arith, both, kept.few))

cells_more : (rows : List RowSeen) → cells_of (map (with_last 255) rows) ≡ map (λ (row : List ℕ). row ++ 255 ∷ []) (cells_of rows)
cells_more [] = refl
cells_more (row ∷ rows) = ap (λ (l : List (List ℕ)). (row.cells ++ 255 ∷ []) ∷ l) (cells_more rows)

pub widened_is : (rows after : List RowSeen) (last : RowSeen) (room : ℕ) → last ≡ record { cells = replicate (length rows) 255 ++ 0 ∷ []; room = room } → after ≡ map (with_last 255) rows ++ last ∷ [] → cells_of after ≡ widened (cells_of rows)
widened_is rows after last room opened made =
    ap cells_of made ∙ map-append (λ (r : RowSeen). r.cells) (map (with_last 255) rows) (last ∷ []) ∙ ap (λ (l : List (List ℕ)). l ++ last.cells ∷ []) (cells_more rows)
    ∙ ap (λ (l : List ℕ). map (λ (row : List ℕ). row ++ 255 ∷ []) (cells_of rows) ++ l ∷ []) (ap (λ (r : RowSeen). r.cells) opened ∙ ap (λ (k : ℕ). replicate k 255 ++ 0 ∷ []) (sym (length-map rows (λ (r : RowSeen). r.cells))))

-- ---- a node less

pub length_removed : {A : Type 0} (list : List A) (at : ℕ) (d : A) → length (swap_remove list at d) ≡ length list - 1
length_removed list at d =
    length-take-le (length list - 1) (set list at (get_or list (length list - 1) d)) (omega (arith, length-set list at (get_or list (length list - 1) d)))

pub rows_removed : (size most : ℕ) (rows : List RowSeen) (at : ℕ) (d : RowSeen) → at < length rows → AreRows size most rows → AreRows size most (swap_remove rows at d)
rows_removed size most rows at d within are =
    rows_front size most (length rows - 1) (set rows at (get_or rows (length rows - 1) d)) (rows_set size most rows at (get_or rows (length rows - 1) d) are (rows_at size most rows (length rows - 1) d are (omega (arith, within))))

pub kept_less : (rows free after : List RowSeen) (places at : ℕ) (d : RowSeen) → IsKept rows free places → at < length rows → after ≡ map (without_cell at) (swap_remove rows at d) → IsKept after free places
kept_less rows free after places at d kept within made =
    let size : length after ≡ length rows - 1 = ap (λ (l : List RowSeen). length l) made ∙ length-map (swap_remove rows at d) (without_cell at) ∙ length_removed rows at d in
    kept_by (length rows - 1) (length free) after free places size refl
    (subst (AreRows (length rows - 1) (length rows - 1 + length free)) (sym made)
    (rows_map (without_cell at) (length rows) (length rows + length free) (length rows - 1) (length rows - 1 + length free)
    (λ r is. record { cells = length_removed r.cells at 0 ∙ ap (λ (k : ℕ). k - 1) is.cells; room = omega (arith, is.room) })
    (swap_remove rows at d) (rows_removed (length rows) (length rows + length free) rows at d within kept.rows)))
    (rows_weaker 0 (length rows + length free) (length rows - 1 + length free) (omega arith) free kept.free)
    (omega (arith, kept.within)) (omega (arith, kept.few))

cells_less : (at : ℕ) (rows : List RowSeen) → cells_of (map (without_cell at) rows) ≡ map (λ (row : List ℕ). swap_remove row at 0) (cells_of rows)
cells_less at [] = refl
cells_less at (row ∷ rows) = ap (λ (l : List (List ℕ)). swap_remove row.cells at 0 ∷ l) (cells_less at rows)

pub dropped_is : (rows after : List RowSeen) (at : ℕ) (d : RowSeen) → at < length rows → after ≡ map (without_cell at) (swap_remove rows at d) → cells_of after ≡ dropped at (cells_of rows)
dropped_is rows after at d within made =
    let size : length rows ≡ length (cells_of rows) = sym (length-map rows (λ (r : RowSeen). r.cells)) in
    let last : (get_or rows (length rows - 1) d).cells ≡ get_or (cells_of rows) (length (cells_of rows) - 1) [] = sym (cells_at rows (length rows - 1) d (omega (arith, within))) ∙ ap (λ (n : ℕ). get_or (cells_of rows) (n - 1) []) size in
    ap cells_of made ∙ cells_less at (swap_remove rows at d)
    ∙ ap (map (λ (row : List ℕ). swap_remove row at 0))
    (sym (take-map (λ (r : RowSeen). r.cells) (length rows - 1) (set rows at (get_or rows (length rows - 1) d))) ∙ ap (take (length rows - 1)) (map-set (λ (r : RowSeen). r.cells) rows at (get_or rows (length rows - 1) d))
    ∙ ap₂ (λ (n : ℕ) (l : List ℕ). take (n - 1) (set (cells_of rows) at l)) size last)

-- ---- a row that is written

pub written_is : (rows : List RowSeen) (a : ℕ) (row d : RowSeen) (f : List ℕ → List ℕ) → a < length rows → row.cells ≡ f (get_or rows a d).cells → cells_of (set rows a row) ≡ set (cells_of rows) a (f (row_of (cells_of rows) a))
written_is rows a row d f within is =
    map-set (λ (r : RowSeen). r.cells) rows a row ∙ ap (set (cells_of rows) a) (is ∙ ap f (sym (cells_at rows a d within)))

-- the rows are a square
pub square_of : (rows free : List RowSeen) (places : ℕ) → IsKept rows free places → IsSquare (cells_of rows)
square_of rows free places kept = cells_alike (length (cells_of rows)) (length rows) (length rows + length free) rows (sym (length-map rows (λ (r : RowSeen). r.cells))) kept.rows
