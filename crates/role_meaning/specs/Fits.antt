-- What a name in a row of a role relation stands for (Casbin, RBAC: matching functions of a role manager).
use Rattle.std.specs.Prelude.{◌≡◌, ◌⊎◌, ℕ, List}
use Rattle.key_match.specs.Patterns.{brace_pieces, colon_pieces, glob_pieces}
use Rattle.key_match.specs.Pieces.{Covers}
use Rattle.key_match.specs.Stars.{AgreesToStar}
use Rattle.perm_base.specs.declared.shapes.Fit.{Fit}
use Rattle.perm_base.specs.declared.shapes.Fit.TheVariants.{Exact, KeyMatch, KeyMatch2, KeyMatch3, Glob}

-- the function holds of the name and the pattern
abbrev pub IsMatched : Fit → List ℕ → List ℕ → Type 0
IsMatched Exact name pattern = ⊥
IsMatched KeyMatch name pattern = AgreesToStar name pattern
IsMatched KeyMatch2 name pattern = Covers (colon_pieces pattern) name
IsMatched KeyMatch3 name pattern = Covers (brace_pieces pattern) name
IsMatched Glob name pattern = Covers (glob_pieces pattern) name

-- the name is that text, or the function holds of it
unfoldable pub Fits : Fit → List ℕ → List ℕ → Type 0
Fits fit name pattern = (name ≡ pattern) ⊎ IsMatched fit name pattern
