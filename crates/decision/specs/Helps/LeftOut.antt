-- Rows of p that need not be looked at.
use Rattle.std.specs.Prelude.{◌≡◌, ◌<◌, ℕ, List, [], Option, Some, All, AllPairs, Ok, false, length, nat_eq, slice_get}
use Rattle.std.specs.List.{list_any}
use Rattle.policy_table.specs.Tables.{Fields}
use Rattle.matcher_meaning.specs.Cases.{Case, at_row, where_refused}
use Rattle.matcher_meaning.specs.Comes.{TruthIs}
use Rattle.decision.specs.declared.looked.Looked.{Looked}
use Rattle.decision.specs.declared.looked.Looked.TheVariants as looked

-- the matcher does not hold for the row, whatever search is refused: the row comes to no match, and to no fault
abbrev pub IsLeftOut : Case → Fields → Type 0
IsLeftOut case fields = (refused : Option (ℕ × List ℕ)) → TruthIs (where_refused (at_row case (Some fields)) refused) case.model.matcher (Ok false)

-- rising places of rows, and each row at another place is left out
pub record AreAllThatMatter (case : Case) (rows : List Fields) (places : List ℕ) : Type 0 where
  pub rising : AllPairs (λ (first second : ℕ). first < second) places
  pub within : All (λ (place : ℕ). place < length rows) places
  pub others : (place : ℕ) (fields : Fields) → slice_get rows place ≡ Some fields → list_any (nat_eq place) places ≡ false → IsLeftOut case fields

-- no row is looked at
abbrev pub LooksAtNone : Looked → Type 0
LooksAtNone looked.All = ⊥
LooksAtNone looked.Nothing = Unit {0}
LooksAtNone (looked.At places) = places.now ≡ []

-- each row of p that is not to be looked at is left out
abbrev pub LeavesOut : Case → List Fields → Looked → Type 0
LeavesOut case rows looked.All = Unit {0}
LeavesOut case rows looked.Nothing = All (IsLeftOut case) rows
LeavesOut case rows (looked.At places) = AreAllThatMatter case rows places.now
