-- Squares of distances between nodes: a cell is the distance from the node of its row to that of its column, and 255 where
-- there is none.
use Rattle.std.specs.Prelude.{◌≡◌, ℕ, ◌+◌, ◌/◌, Bool, List, [], ◌∷◌, ◌++◌, length, map, min, nat_le, nat_lt, replicate, slice_index, slice_index_or, slice_set, if◌then◌else◌}
use Rattle.std.specs.List.{AllByRecursion, swap_remove}
use Rattle.std.specs.Simd.Lanes.{zip2}

-- what contracts see: the cells of each row, and how many nodes more are taken without memory
pub record Square : Type 0 where
  pub cells : List (List ℕ)
  pub spare : ℕ

-- the greatest number of nodes
abbrev pub most_nodes : ℕ
most_nodes = 1024

-- each row is as long as there are rows
abbrev pub IsSquare : List (List ℕ) → Type 0
IsSquare cells = AllByRecursion (λ (row : List ℕ). length row ≡ length cells) cells

-- the row of a node
abbrev pub row_of : List (List ℕ) → ℕ → List ℕ
row_of cells a = slice_index_or cells a []

-- a new last node, at no distance from itself and at none to others
abbrev pub widened : List (List ℕ) → List (List ℕ)
widened cells = map (λ (row : List ℕ). row ++ 255 ∷ []) cells ++ (replicate (length cells) 255 ++ 0 ∷ []) ∷ []

-- the last node in the place of this one
abbrev pub dropped : ℕ → List (List ℕ) → List (List ℕ)
dropped at cells = map (λ (row : List ℕ). swap_remove row at 0) (swap_remove cells at [])

-- the distance from a node to another
abbrev pub cell_of : List (List ℕ) → ℕ → ℕ → ℕ
cell_of cells a b = slice_index (row_of cells a) b

-- a distance in the place of one
abbrev pub with_cell : List (List ℕ) → ℕ → ℕ → ℕ → List (List ℕ)
with_cell cells a b value = slice_set cells a (slice_set (row_of cells a) b value)

-- a row without distances, but for that to its own node
abbrev pub cleared : List (List ℕ) → ℕ → List (List ℕ)
cleared cells a = slice_set cells a (slice_set (replicate (length cells) 255) a 0)

-- a sum of distances; past 254 there is none
abbrev pub sum_of : ℕ → ℕ → ℕ
sum_of add d = if nat_lt 254 (add + d) then 255 else add + d

-- each distance of a row, or the sum by way of another row where that is less
abbrev pub lowered : ℕ → List ℕ → List ℕ → List ℕ
lowered add row other = zip2 (λ (d e : ℕ). min d (sum_of add e)) row other

-- the row of a node, lowered by that of another
abbrev pub relaxed : List (List ℕ) → ℕ → ℕ → ℕ → List (List ℕ)
relaxed cells a add v = slice_set cells a (lowered add (row_of cells a) (row_of cells v))

-- how many groups of 32 cells, or of a part of 32, a row of this length has
abbrev pub groups : ℕ → ℕ
groups size = (size + 31) / 32

-- whether each distance is within a limit
abbrev pub are_within : ℕ → List ℕ → List Bool
are_within limit row = map (λ (d : ℕ). nat_le d limit) row
