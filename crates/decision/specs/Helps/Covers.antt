-- The rows that are looked at in place of all rows of p.
use Rattle.std.specs.Prelude.{◌≡◌, ◌⊎◌, ◌<◌, ◌^◌, ◌+◌, ℕ, suc, List, [], ◌∷◌, length, All, Option, Some, None}
use Rattle.policy_table.specs.Tables.{Fields}
use Rattle.matcher_meaning.specs.Cases.{Case}
use Rattle.matcher_meaning.specs.Order.{Numbered, in_order_of, numbered_from}
use Rattle.decision.specs.Helps.LeftOut.{IsLeftOut}

-- some of all rows in the order of these, and each of the others is left out
abbrev pub Covers : Case → List Numbered → List Numbered → Type 0
Covers case [] [] = Unit {0}
Covers case [] (one ∷ some) = ⊥
Covers case (row ∷ all) [] = IsLeftOut case row.fields × Covers case all []
Covers case (row ∷ all) (one ∷ some) = ((one ≡ row) × Covers case all some) ⊎ (IsLeftOut case row.fields × Covers case all (one ∷ some))

-- the rows of a table that are left to look at, under their numbers: those behind so many, or those at these places
abbrev pub rows_left : List Fields → List Fields → ℕ → Option (List ℕ) → List Numbered
rows_left table rows passed None = numbered_from (suc passed) rows
rows_left table rows passed (Some places) = in_order_of places (numbered_from 1 table)

-- numbers of rows have 32 bits, and places are those of rows
abbrev pub AreInTable : List Fields → List Fields → ℕ → Option (List ℕ) → Type 0
AreInTable table rows passed None = passed + length rows < 2 ^ 32
AreInTable table rows passed (Some places) = (length table < 2 ^ 32) × All (λ place. place < length table) places
