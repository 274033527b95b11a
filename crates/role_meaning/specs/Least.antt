-- The least number of which something holds.
use Rattle.std.specs.Prelude.{◌+◌, ◌<◌, ◌≤◌, ℕ}

-- the least number up to `most` of which it holds, and one more than `most` where it holds of none of these
pub record IsLeast (most : ℕ) (Holds : ℕ → Type 0) (found : ℕ) : Type 0 where
  pub within : found ≤ most + 1
  pub holds : found ≤ most → Holds found
  pub least : (lower : ℕ) → lower < found → ¬ Holds lower
