-- What is seen of a sink at one moment.
use Rattle.std.specs.Prelude.{ℕ, List, Option}

-- what a sink has taken, where it tells it, and how often it has failed
pub record Taken : Type 0 where
  pub bytes : Option (List ℕ)
  pub faults : ℕ

abbrev pub taken : Option (List ℕ) → ℕ → Taken
taken bytes faults = record { bytes = bytes; faults = faults }
