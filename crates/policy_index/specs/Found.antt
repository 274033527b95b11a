-- Slots and places of rows that are found.
use Rattle.std.specs.Prelude.{◌≡◌, ℕ, ◌<◌, Bool, true, false, nat_eq, All, AllPairs, List, ◌++◌, length, slice_get, Some}
use Rattle.std.specs.List.{list_any}
use Rattle.std.specs.Option.{option_map_or}
use Rattle.policy_table.specs.Tables.{Fields}

-- the rule at a place of these passes the test
abbrev pub passes_at : (Fields → Bool) → List Fields → ℕ → Bool
passes_at test rules at = option_map_or test (slice_get rules at) false

-- slots are put behind others: each is the slot of a row, and those of all rows that pass the test are among them
pub record AddsSlots (test : Fields → Bool) (by_slot : List Fields) (old new : List ℕ) : Type 0 where
  pub more : List ℕ
  pub behind : new ≡ old ++ more
  pub within : All (λ (slot : ℕ). slot < length by_slot) more
  pub each : (slot : ℕ) → passes_at test by_slot slot ≡ true → list_any (nat_eq slot) more ≡ true

-- the places, counted from 0 and rising, of the rows in these slots
pub record ArePlacesOf (by_slot rows : List Fields) (from places : List ℕ) : Type 0 where
  pub rising : AllPairs (λ (first second : ℕ). first < second) places
  pub within : All (λ (place : ℕ). place < length rows) places
  pub each : (slot place : ℕ) (rule : Fields) → list_any (nat_eq slot) from ≡ true → slice_get by_slot slot ≡ Some rule → slice_get rows place ≡ Some rule → list_any (nat_eq place) places ≡ true

-- rising places of rows, among them those of all rows that pass the test
pub record FindRows (test : Fields → Bool) (rows : List Fields) (places : List ℕ) : Type 0 where
  pub rising : AllPairs (λ (first second : ℕ). first < second) places
  pub within : All (λ (place : ℕ). place < length rows) places
  pub each : (place : ℕ) → passes_at test rows place ≡ true → list_any (nat_eq place) places ≡ true
