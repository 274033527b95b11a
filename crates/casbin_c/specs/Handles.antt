-- What calls do to a handle.
use Rattle.std.specs.Prelude.{◌≡◌, ◌⊎◌, Option, Some, None}

-- it was open and is open, and this holds of what it held and holds
pub record StaysOpen {E : Type 0} (old new : Option E) (Holds : E → E → Type 0) : Type 0 where
  pub before : E
  pub behind : E
  pub had : old ≡ Some before
  pub has : new ≡ Some behind
  pub holds : Holds before behind

-- it was closed and is closed, and then this holds; or it stays open
abbrev pub Uses : {E : Type 0} → (old new : Option E) → (Closed : Type 0) → (Holds : E → E → Type 0) → Type 0
Uses old new Closed Holds = ((old ≡ None) × (new ≡ None) × Closed) ⊎ StaysOpen old new Holds

-- it is open, and this holds of what it holds
pub record Opens {E : Type 0} (new : Option E) (Holds : E → Type 0) : Type 0 where
  pub behind : E
  pub has : new ≡ Some behind
  pub holds : Holds behind
