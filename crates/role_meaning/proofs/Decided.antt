-- Facts that a test tells.
use Rattle.std.proofs.Common.{◌≡◌, ℕ, ◌+◌, ◌<◌, zero, suc, true, false, ◌⊎◌, inl, inr, refl, subst, arith}
use Rattle.std.proofs.lemmas.Bool.{cases_eq, false≢true}
use Rattle.key_match.proofs.CallerLemmas.{Decided, decided_false, decided_true}
use Rattle.role_meaning.specs.Least.{IsLeast}

pub told : (P : Type 0) → Decided P → P ⊎ (¬ P)
told P (true, same) = inl (same.0 refl)
told P (false, same) = inr (λ p. false≢true (same.1 p))

-- what holds or does not is decided
pub decided_from : (P : Type 0) → P ⊎ (¬ P) → Decided P
decided_from P (inl p) = decided_true P p
decided_from P (inr none) = decided_false P none

-- the least number of which something holds, below a bound
record Found (Holds : ℕ → Type 0) (bound : ℕ) : Type 0 where
  pub number : ℕ
  pub below : number < bound
  pub holds : Holds number
  pub least : (lower : ℕ) → lower < number → ¬ Holds lower

none_below : (Holds : ℕ → Type 0) (bound : ℕ) → ((lower : ℕ) → lower < bound → ¬ Holds lower) → ¬ Holds bound → (lower : ℕ) → lower < suc bound → ¬ Holds lower
none_below Holds bound below here lower less holds = by (cases_eq lower bound)
  where
    by : (lower ≡ bound) ⊎ (¬ (lower ≡ bound)) → ⊥
    by (inl same) = here (subst Holds same holds)
    by (inr other) = below lower (omega arith) holds

seek : (Holds : ℕ → Type 0) → ((number : ℕ) → Decided (Holds number)) → (bound : ℕ) → Found Holds bound ⊎ ((lower : ℕ) → lower < bound → ¬ Holds lower)
seek Holds decided zero = inr (λ lower less. absurd (omega arith))
seek Holds decided (suc bound) = by (seek Holds decided bound) (told (Holds bound) (decided bound))
  where
    by : Found Holds bound ⊎ ((lower : ℕ) → lower < bound → ¬ Holds lower) → Holds bound ⊎ (¬ Holds bound) → Found Holds (suc bound) ⊎ ((lower : ℕ) → lower < suc bound → ¬ Holds lower)
    by (inl found) here = inl (record { number = found.number; below = omega arith; holds = found.holds; least = found.least })
    by (inr none) (inl here) = inl (record { number = bound; below = omega arith; holds = here; least = none })
    by (inr none) (inr not_here) = inr (none_below Holds bound none not_here)

pub least_there : (most : ℕ) (Holds : ℕ → Type 0) → ((number : ℕ) → Decided (Holds number)) → (found : ℕ) × IsLeast most Holds found
least_there most Holds decided = by (seek Holds decided (suc most))
  where
    by : Found Holds (suc most) ⊎ ((lower : ℕ) → lower < suc most → ¬ Holds lower) → (found : ℕ) × IsLeast most Holds found
    by (inl found) = (found.number, record { within = omega arith; holds = λ _. found.holds; least = found.least })
    by (inr none) = (most + 1, record { within = omega arith; holds = λ low. absurd (omega arith); least = λ lower less. none lower (omega arith) })
