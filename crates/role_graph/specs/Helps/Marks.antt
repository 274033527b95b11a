-- Places that are marked, as bits of words.
use Rattle.std.specs.Prelude.{◌≡◌, ◌⊎◌, ◌/◌, ◌%◌, ℕ, List, get_or}
use Rattle.std.specs.Int.{bit_at}

-- the place is marked
unfoldable pub IsSet : List ℕ → ℕ → Type 0
IsSet words at = bit_at (get_or words (at / 64) 0) (at % 64) ≡ 1

-- places of which something holds were marked where they were not, and are marked as new then
pub record Extends (Allowed : ℕ → Type 0) (all new all_after new_after : List ℕ) : Type 0 where
  pub keeps : (at : ℕ) → IsSet all at → IsSet all_after at
  pub keeps_new : (at : ℕ) → IsSet new at → IsSet new_after at
  pub only : (at : ℕ) → IsSet all_after at → IsSet all at ⊎ IsSet new_after at
  pub only_new : (at : ℕ) → IsSet new_after at → IsSet new at ⊎ (IsSet all_after at × Allowed at)

-- the same where nothing was new before
pub record IsNext (Allowed : ℕ → Type 0) (all all_after new : List ℕ) : Type 0 where
  pub keeps : (at : ℕ) → IsSet all at → IsSet all_after at
  pub only : (at : ℕ) → IsSet all_after at → IsSet all at ⊎ IsSet new at
  pub new_ones : (at : ℕ) → IsSet new at → IsSet all_after at × Allowed at
