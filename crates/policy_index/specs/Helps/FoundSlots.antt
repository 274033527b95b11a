-- Slots that are found by marks, step by step.
use Rattle.std.specs.Prelude.{◌≡◌, ℕ, ◌+◌, ◌<◌, ◌&&◌, ◌||◌, Bool, true, false, nat_eq, nat_lt, All, List, ◌++◌, length, slice_get, take, Option, Some, None}
use Rattle.std.specs.List.{AllZip, list_any}
use Rattle.std.specs.Option.{option_map_or}
use Rattle.policy_table.specs.Tables.{Fields}
use Rattle.policy_index.specs.Hashes.{front_hash, most_front, whole_hash}
use Rattle.policy_index.specs.Helps.Kept.{has_front, has_hash}
use Rattle.policy_index.specs.declared.key.FrontColumn.{FrontColumn}
use Rattle.policy_index.specs.declared.mark.Mark.{Mark}

-- slots are put behind others: each is the slot of a mark, and those of all marks that pass the test are among them
pub record AddsMarks (test : Mark → Bool) (marks : List Mark) (old new : List ℕ) : Type 0 where
  pub more : List ℕ
  pub behind : new ≡ old ++ more
  pub within : All (λ (slot : ℕ). slot < length marks) more
  pub each : (slot : ℕ) → option_map_or test (slice_get marks slot) false ≡ true → list_any (nat_eq slot) more ≡ true

-- the mark is that of a front of this length which the text begins with
abbrev pub is_front_of : ℕ → List ℕ → ℕ → Mark → Bool
is_front_of hash text size mark = has_front size mark && has_hash (front_hash hash (take size text)) mark

-- the same for a length below a bound
abbrev pub is_front_below : ℕ → List ℕ → ℕ → Option ℕ → Mark → Bool
is_front_below hash text bound None mark = false
is_front_below hash text bound (Some size) mark = nat_lt size bound && has_hash (front_hash hash (take size text)) mark

abbrev pub has_front_below : ℕ → List ℕ → ℕ → Mark → Bool
has_front_below hash text bound mark = is_front_below hash text bound mark.front mark

-- the mark is found for a text under a hash, by a front that the text begins with or as the whole text
abbrev pub is_found : ℕ → List ℕ → Mark → Bool
is_found hash text mark = has_hash (whole_hash hash text) mark || has_front_below hash (take most_front text) (1 + length (take most_front text)) mark

-- the mark is one that is looked for
abbrev pub is_sought : Option FrontColumn → ℕ → List ℕ → Mark → Bool
is_sought None hash text mark = has_hash hash mark
is_sought (Some front) hash text mark = is_found hash text mark

-- the row at a place is that of a slot
pub record IsPlaceOf (by_slot rows : List Fields) (slot place : ℕ) : Type 0 where
  pub within : place < length rows
  pub same : slice_get rows place ≡ slice_get by_slot slot

-- each place is that of the slot beside it
abbrev pub ArePlacesOfEach : (by_slot rows : List Fields) → List ℕ → List ℕ → Type 0
ArePlacesOfEach by_slot rows from places = AllZip (IsPlaceOf by_slot rows) from places
