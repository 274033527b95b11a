-- Rows of cells where ids stand, and the counts that tell how many ids are before a cell.
use Rattle.std.specs.Prelude.{◌≡◌, ◌≢◌, ℕ, ◌+◌, ◌*◌, ◌/◌, ◌%◌, ◌^◌, ◌<◌, ◌≤◌, List, [], ◌∷◌, length, take, drop, ◌++◌, Option, Some, None, slice_index_or}

-- the ids that stand in a row of cells, in order: an empty cell counts for nothing
abbrev pub live : List (Option ℕ) → List ℕ
live [] = []
live (None ∷ xs) = live xs
live (Some x ∷ xs) = x ∷ live xs

-- where a row of cells that has been packed has its id of this place: the last 64 of 512 cells are empty
abbrev pub spaced : ℕ → ℕ
spaced place = place + 64 * (place / 448)

-- up to the cell `tail`, the count of a cell's block and its rank in the block are together the number of ids before it
pub record IsCounted (cells : List (Option ℕ)) (rank before : List ℕ) (tail : ℕ) : Type 0 where
  pub ranks : length rank ≡ length cells
  pub blocks : length cells ≤ 512 * length before
  pub within : tail ≤ length cells
  pub small : length cells < 2 ^ 32
  pub counted : (c : ℕ) → c < tail → slice_index_or before (c / 512) 0 + slice_index_or rank c 0 ≡ length (live (take c cells))
  pub starts : (b : ℕ) → 512 * b < tail → slice_index_or rank (512 * b) 0 ≡ 0

-- each id that stands is within the table of cells, which names its cell
pub record IsPlaced (cells : List (Option ℕ)) (cell_of : List ℕ) : Type 0 where
  pub within : (c id : ℕ) → slice_index_or cells c None ≡ Some id → id < length cell_of
  pub named : (c id : ℕ) → slice_index_or cells c None ≡ Some id → slice_index_or cell_of id 0 ≡ c

-- the cells from one on are empty
pub record IsEmptyFrom (cells : List (Option ℕ)) (tail : ℕ) : Type 0 where
  pub empty : (c : ℕ) → tail ≤ c → slice_index_or cells c None ≡ None

-- what an order keeps
pub record IsKept (cells : List (Option ℕ)) (cell_of rank before : List ℕ) (tail count : ℕ) : Type 0 where
  pub counted : IsCounted cells rank before tail
  pub placed : IsPlaced cells cell_of
  pub ended : IsEmptyFrom cells tail
  pub wide : 2 * length cell_of ≤ length cells
  pub counts : count ≡ length (live cells)
  pub few : count ≤ length cell_of

-- one less at each place from one to before another, and the rest as it was
pub record IsLowered (old new : List ℕ) (from to : ℕ) : Type 0 where
  pub len : length new ≡ length old
  pub lowered : (k : ℕ) → from ≤ k → k < to → slice_index_or new k 0 + 1 ≡ slice_index_or old k 0
  pub front : (k : ℕ) → k < from → slice_index_or new k 0 ≡ slice_index_or old k 0
  pub back : (k : ℕ) → to ≤ k → slice_index_or new k 0 ≡ slice_index_or old k 0

-- one more at each place from one to before another, and the rest as it was
pub record IsRaised (old new : List ℕ) (from to : ℕ) : Type 0 where
  pub len : length new ≡ length old
  pub raised : (k : ℕ) → from ≤ k → k < to → slice_index_or new k 0 ≡ slice_index_or old k 0 + 1
  pub front : (k : ℕ) → k < from → slice_index_or new k 0 ≡ slice_index_or old k 0
  pub back : (k : ℕ) → to ≤ k → slice_index_or new k 0 ≡ slice_index_or old k 0

-- the counts of the cell at the tail are written, behind `count` ids, and those before it are as they were
pub record IsOpened (rank before ranks befores : List ℕ) (tail count : ℕ) : Type 0 where
  pub rank_len : length ranks ≡ length rank
  pub before_len : length befores ≡ length before
  pub total : slice_index_or befores (tail / 512) 0 + slice_index_or ranks tail 0 ≡ count
  pub start : tail % 512 ≡ 0 → slice_index_or ranks tail 0 ≡ 0
  pub rank_kept : (k : ℕ) → k < tail → slice_index_or ranks k 0 ≡ slice_index_or rank k 0
  pub before_kept : (b : ℕ) → 512 * b < tail → slice_index_or befores b 0 ≡ slice_index_or before b 0

-- the ids from `start` to before `at` have moved on by one cell, `id` stands at their front, and `carried` is left to be put down at `at`
pub record IsCarried (old new : List (Option ℕ)) (old_of new_of : List ℕ) (tail start at id carried : ℕ) : Type 0 where
  pub low : start ≤ at
  pub high : at ≤ tail
  pub within : tail < length new
  pub small : length new < 2 ^ 32
  pub len : length new ≡ length old
  pub slots : length new_of ≡ length old_of
  pub placed : IsPlaced new new_of
  pub ended : IsEmptyFrom new tail
  pub fits : carried < length new_of
  pub apart : (k : ℕ) → slice_index_or new k None ≢ Some carried
  pub counts : (k : ℕ) → length (live (take k new)) ≡ length (live (take k old))
  pub ids : live (take at new) ++ carried ∷ live (drop at new) ≡ live (take start old) ++ id ∷ live (drop start old)
