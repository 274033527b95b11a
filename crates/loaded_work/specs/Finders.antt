-- What a finder refused.
use Rattle.std.specs.Prelude.{◌≡◌, ℕ, List}
use Rattle.regex_gate.specs.Refusals.{Refusals, after_refusals}

-- a finder refused these patterns, one after the other
abbrev pub HasRefused : Refusals → Refusals → List (List ℕ) → Type 0
HasRefused before now patterns = now ≡ after_refusals before patterns
