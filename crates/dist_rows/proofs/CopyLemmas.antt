-- Rows that are copied one after the other.
use Rattle.std.proofs.Common.{◌≡◌, ℕ, ◌+◌, ◌<◌, ◌≤◌, List, [], ◌∷◌, ◌++◌, length, get_or, take, sym, ap, subst, ◌∙◌, arith}
use Rattle.std.proofs.lemmas.List.{length-map, map-append, take_more}
use Rattle.dist_rows.proofs.RowLemmas.{rows_at, rows_both, rows_weaker}
use Rattle.dist_rows.specs.Helps.Rows.{AreRows, IsKept, RowSeen, cells_of}

-- one row more, with its cells
pub cells_next : (rows copies : List RowSeen) (at : ℕ) (row d : RowSeen) → at < length rows → row.cells ≡ (get_or rows at d).cells → cells_of copies ≡ cells_of (take at rows) → cells_of (copies ++ row ∷ []) ≡ cells_of (take (at + 1) rows)
cells_next rows copies at row d within same so_far =
    map-append (λ (r : RowSeen). r.cells) copies (row ∷ [])
    ∙ (λ j. so_far j ++ same j ∷ [])
    ∙ sym (map-append (λ (r : RowSeen). r.cells) (take at rows) (get_or rows at d ∷ []))
    ∙ sym (ap cells_of (take_more rows at d within))

-- and with room for them
pub rows_next : (size most : ℕ) (rows copies : List RowSeen) (at : ℕ) (row d : RowSeen) → at < length rows → row.cells ≡ (get_or rows at d).cells → length (get_or rows at d).cells ≤ row.room → AreRows size most rows → AreRows size size copies
    → AreRows size size (copies ++ row ∷ [])
rows_next size most rows copies at row d within same enough are before =
    let one = rows_at size most rows at d are within in
    rows_both size size copies (row ∷ []) before (record { cells = ap (λ (l : List ℕ). length l) same ∙ one.cells; room = omega (arith, one.cells, enough) }, tt)

-- the copy of what a square keeps, without rows to come
pub kept_copied : (rows free copies : List RowSeen) (places after : ℕ) → IsKept rows free places → cells_of copies ≡ cells_of rows → ((size most : ℕ) → AreRows size most rows → AreRows size size copies) → length copies ≤ after → IsKept copies [] after
kept_copied rows free copies places after kept cells all within =
    let one : length copies ≡ length rows = sym (length-map copies (λ (r : RowSeen). r.cells)) ∙ ap (λ (l : List (List ℕ)). length l) cells ∙ length-map rows (λ (r : RowSeen). r.cells) in
    record {
      rows =
          subst (λ (k : ℕ). AreRows k (k + 0) copies) (sym one)
          (rows_weaker (length rows) (length rows) (length rows + 0) (omega arith) copies (all (length rows) (length rows + length free) kept.rows));
      free = tt;
      within = omega (arith, within);
      few = omega (arith, one, kept.few);
    }
