-- Rows with their room, and how far a row is lowered.
use Rattle.std.specs.Prelude.{◌≡◌, ℕ, ◌+◌, ◌≤◌, List, [], ◌∷◌, ◌++◌, drop, length, map, slice_index_or, slice_set, take}
use Rattle.std.specs.List.{AllByRecursion, swap_remove}
use Rattle.dist_rows.specs.Squares.{lowered, most_nodes}

-- what contracts see of a row: its cells, and how many it has room for in all
pub record RowSeen : Type 0 where
  pub cells : List ℕ
  pub room : ℕ

-- the cells of each row
abbrev pub cells_of : List RowSeen → List (List ℕ)
cells_of rows = map (λ (row : RowSeen). row.cells) rows

-- a row among others
abbrev pub row_at : List RowSeen → ℕ → RowSeen
row_at rows at = slice_index_or rows at (record { cells = []; room = 0 })

-- a row has so many cells, and room for so many in all
pub record IsRow (size most : ℕ) (row : RowSeen) : Type 0 where
  pub cells : length row.cells ≡ size
  pub room : most ≤ row.room

-- all rows are such
abbrev pub AreRows : ℕ → ℕ → List RowSeen → Type 0
AreRows size most rows = AllByRecursion (IsRow size most) rows

-- what every square keeps: rows as long as there are rows, further rows that have no cells yet, and room in all of them, and
-- in the list of rows, for as many as there are of both
pub record IsKept (used unused : List RowSeen) (places : ℕ) : Type 0 where
  pub rows : AreRows (length used) (length used + length unused) used
  pub free : AreRows 0 (length used + length unused) unused
  pub within : length used + length unused ≤ places
  pub few : length used + length unused ≤ most_nodes

-- a row with a cell more
abbrev pub with_last : ℕ → RowSeen → RowSeen
with_last value row = record row { cells = row.cells ++ value ∷ [] }

-- a row with its last cell in the place of this one
abbrev pub without_cell : ℕ → RowSeen → RowSeen
without_cell at row = record row { cells = swap_remove row.cells at 0 }

-- a list of which the first items are those of another
abbrev pub fronted : {A : Type 0} → ℕ → List A → List A → List A
fronted at front rest = take at front ++ drop at rest

-- rows of which one is lowered by another in its first cells alone
abbrev pub relaxed_to : ℕ → List RowSeen → ℕ → ℕ → ℕ → List RowSeen
relaxed_to at rows a add v = slice_set rows a (record { cells = fronted at (lowered add (row_at rows a).cells (row_at rows v).cells) (row_at rows a).cells; room = (row_at rows a).room })
