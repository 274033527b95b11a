-- What a finder has refused, and what it refused from one moment to a later one.
use Rattle.std.specs.Prelude.{◌≡◌, ℕ, ◌+◌, List, [], ◌∷◌, ◌++◌, Option, Some, None, min, Contains}
use Rattle.outside.specs.Faults.{Rose, most_faults}

-- how often a finder has refused, and its log: the pattern of each refusal, in their order
pub record Refusals : Type 0 where
  pub count : ℕ
  pub patterns : List (List ℕ)

-- with one refusal more
abbrev pub after_refusal : Refusals → List ℕ → Refusals
after_refusal refusals pattern = record { count = min (refusals.count + 1) most_faults; patterns = refusals.patterns ++ pattern ∷ [] }

-- with a refusal more, or none
abbrev pub after_one : Refusals → Option (List ℕ) → Refusals
after_one refusals None = refusals
after_one refusals (Some pattern) = after_refusal refusals pattern

-- between the two it refused this pattern once, or nothing
abbrev pub RefusedOnly : (before now : Refusals) → Option (List ℕ) → Type 0
RefusedOnly before now refused = now ≡ after_one before refused

-- with these refusals more, in their order
abbrev pub after_refusals : Refusals → List (List ℕ) → Refusals
after_refusals refusals [] = refusals
after_refusals refusals (pattern ∷ others) = after_refusals (after_refusal refusals pattern) others

-- the finder refused this pattern: the count rose, and the log got the pattern
pub record IsRefused (before now : Refusals) (pattern : List ℕ) : Type 0 where
  pub rose : Rose before.count now.count
  pub more : List (List ℕ)
  pub grown : now.patterns ≡ before.patterns ++ more
  pub logged : Contains more pattern

-- how a finder was used: it refused these patterns, and nothing else
pub record IsUsed (before now : Refusals) : Type 0 where
  pub more : List (List ℕ)
  pub refused : now ≡ after_refusals before more
