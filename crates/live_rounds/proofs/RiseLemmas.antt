-- Versions that do not fall.
use Rattle.std.proofs.Common.{ℕ, zero, suc, ◌≤◌, List, [], ◌∷◌, ◌++◌, map, arith}
use Rattle.std.specs.List.{AllByRecursion}
use Rattle.std.specs.List.Sorted.{IsNonDecreasing}
use Rattle.std.proofs.lemmas.List.Elements.{All-from_recursion}
use Rattle.live_rounds.specs.Answered.{Rise}
use Rattle.live_rounds.specs.Lists.{last_from}

weaker : (low high : ℕ) (others : List ℕ) → low ≤ high → AllByRecursion (λ (v : ℕ). high ≤ v) others → AllByRecursion (λ (v : ℕ). low ≤ v) others
weaker low high [] below all = tt
weaker low high (v ∷ others) below all = (omega (arith, below, all.0), weaker low high others below all.1)

-- they are all at least the first
above : (low : ℕ) (versions : List ℕ) → Rise low versions → AllByRecursion (λ (v : ℕ). low ≤ v) versions
above low [] rise = tt
above low (version ∷ versions) rise = (rise.0, weaker low version versions rise.0 (above version versions rise.1))

pub rise_is : (low : ℕ) (versions : List ℕ) → Rise low versions → IsNonDecreasing versions
rise_is low [] rise i j d above within = absurd (omega (arith, within))
rise_is low (version ∷ versions) rise zero zero d before within = omega arith
rise_is low (version ∷ versions) rise (suc i) zero d before within = absurd (omega (arith, before))
rise_is low (version ∷ versions) rise zero (suc j) d before within = All-from_recursion (λ (v : ℕ). version ≤ v) versions (above version versions rise.1) j d (omega (arith, within))
rise_is low (version ∷ versions) rise (suc i) (suc j) d before within = rise_is version versions rise.1 i j d (omega (arith, before)) (omega (arith, within))

-- and then the same version again and again
pub rise_then : {X : Type 0} (low high : ℕ) (versions : List ℕ) (others : List X) → Rise low versions → last_from low versions ≤ high → Rise low (versions ++ map (λ (x : X). high) others)
rise_then low high [] [] rise most = tt
rise_then low high [] (x ∷ others) rise most = (most, rise_then high high [] others tt (omega arith))
rise_then low high (version ∷ versions) others rise most = (rise.0, rise_then version high versions others rise.1 most)
