-- Texts that are joined by a comma and a blank, as fields are printed.
use Rattle.std.specs.Prelude.{◌≡◌, ℕ, List, [], ◌∷◌, ◌++◌}
use Rattle.std.specs.List.{join_by}

-- the texts, joined by a comma and a blank
abbrev pub joined : List (List ℕ) → List ℕ
joined texts = join_by (λ (text : List ℕ). text) (44 ∷ 32 ∷ []) texts

-- what stood in a text stands there still, and more may stand behind it
abbrev pub IsBehind : List ℕ → List ℕ → Type 0
IsBehind old new = (more : List ℕ) × (new ≡ old ++ more)
