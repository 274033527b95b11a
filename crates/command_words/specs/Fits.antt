-- Lists of role relations, each with the function by which its names or domains are compared.
use Rattle.std.specs.Prelude.{ℕ, ◌==◌, ◌<◌, ◌≤◌, ◌≢◌, Bool, List, All, AllPairs}
use Rattle.std.specs.List.{list_any}
use Rattle.perm_base.specs.declared.shapes.Fit.{Fit}

-- none of them twice
abbrev pub AreNamedOnce : List (ℕ × Fit) → Type 0
AreNamedOnce fits = AllPairs (λ (first second : ℕ × Fit). first.0 ≢ second.0) fits

-- the relations are `g`, whose number is 1, and `g2` to `g8`
abbrev pub AreRelations : List (ℕ × Fit) → Type 0
AreRelations fits = All (λ (fit : ℕ × Fit). (0 < fit.0) × (fit.0 ≤ 8)) fits

-- the relation is one of these
abbrev pub has_relation : List (ℕ × Fit) → ℕ → Bool
has_relation fits relation = list_any (λ (fit : ℕ × Fit). relation == fit.0) fits
