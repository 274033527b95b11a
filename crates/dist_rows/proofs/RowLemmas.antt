-- Rows that are alike in their size and room.
use Rattle.std.proofs.Common.{◌≡◌, ℕ, zero, suc, ◌<◌, ◌≤◌, List, [], ◌∷◌, ◌++◌, length, map, get_or, set, take, refl, ◌∙◌, arith}
use Rattle.std.specs.List.{AllByRecursion}
use Rattle.dist_rows.specs.Helps.Rows.{AreRows, IsRow, RowSeen, cells_of}

pub rows_at : (size most : ℕ) (rows : List RowSeen) (at : ℕ) (d : RowSeen) → AreRows size most rows → at < length rows → IsRow size most (get_or rows at d)
rows_at size most [] at d are within = absurd (omega arith)
rows_at size most (row ∷ rows) zero d are within = are.0
rows_at size most (row ∷ rows) (suc at) d are within = rows_at size most rows at d are.1 (omega arith)

pub rows_set : (size most : ℕ) (rows : List RowSeen) (at : ℕ) (row : RowSeen) → AreRows size most rows → IsRow size most row → AreRows size most (set rows at row)
rows_set size most [] at row are one = tt
rows_set size most (other ∷ rows) zero row are one = (one, are.1)
rows_set size most (other ∷ rows) (suc at) row are one = (are.0, rows_set size most rows at row are.1 one)

pub rows_map : (f : RowSeen → RowSeen) (size most other more : ℕ) → ((row : RowSeen) → IsRow size most row → IsRow other more (f row)) → (rows : List RowSeen) → AreRows size most rows → AreRows other more (map f rows)
rows_map f size most other more each [] are = tt
rows_map f size most other more each (row ∷ rows) are = (each row are.0, rows_map f size most other more each rows are.1)

pub rows_both : (size most : ℕ) (rows more : List RowSeen) → AreRows size most rows → AreRows size most more → AreRows size most (rows ++ more)
rows_both size most [] more are others = others
rows_both size most (row ∷ rows) more are others = (are.0, rows_both size most rows more are.1 others)

pub rows_behind : (size most : ℕ) (rows more : List RowSeen) → AreRows size most (rows ++ more) → AreRows size most more
rows_behind size most [] more are = are
rows_behind size most (row ∷ rows) more are = rows_behind size most rows more are.1

pub rows_front : (size most n : ℕ) (rows : List RowSeen) → AreRows size most rows → AreRows size most (take n rows)
rows_front size most zero rows are = tt
rows_front size most (suc n) [] are = tt
rows_front size most (suc n) (row ∷ rows) are = (are.0, rows_front size most n rows are.1)

pub rows_weaker : (size most few : ℕ) → few ≤ most → (rows : List RowSeen) → AreRows size most rows → AreRows size few rows
rows_weaker size most few less [] are = tt
rows_weaker size most few less (row ∷ rows) are = (record { cells = are.0.cells; room = omega (arith, less, are.0.room) }, rows_weaker size most few less rows are.1)

-- ---- their cells

pub cells_at : (rows : List RowSeen) (at : ℕ) (d : RowSeen) → at < length rows → get_or (cells_of rows) at [] ≡ (get_or rows at d).cells
cells_at [] at d within = absurd (omega arith)
cells_at (row ∷ rows) zero d within = refl
cells_at (row ∷ rows) (suc at) d within = cells_at rows at d (omega arith)

pub cells_alike : (n size most : ℕ) (rows : List RowSeen) → size ≡ n → AreRows size most rows → AllByRecursion (λ (row : List ℕ). length row ≡ n) (cells_of rows)
cells_alike n size most [] is are = tt
cells_alike n size most (row ∷ rows) is are = (are.0.cells ∙ is, cells_alike n size most rows is are.1)
