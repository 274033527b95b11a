-- What each text begins with that fits a pattern: the bytes of the pattern before its first sign.
use Rattle.std.specs.Prelude.{◌≡◌, ℕ, List, [], ◌∷◌, ◌++◌, take, Option, None, Some}
use Rattle.key_match.specs.Pieces.{Piece, Only, One}
use Rattle.key_match.specs.Patterns.{brace_pieces, colon_pieces, glob_pieces}
use Rattle.key_match.specs.Stars.{star_of}

-- the bytes that stand for themselves before the first other piece
abbrev pub plain_bytes : List Piece → List ℕ
plain_bytes [] = []
plain_bytes (One (Only byte) ∷ pieces) = byte ∷ plain_bytes pieces
plain_bytes (piece ∷ pieces) = []

-- up to the first `*`, or the whole pattern
abbrev pub before_star : Option ℕ → List ℕ → List ℕ
before_star None pattern = pattern
before_star (Some star) pattern = take star pattern

-- keyMatch
abbrev pub star_front : List ℕ → List ℕ
star_front pattern = before_star (star_of pattern) pattern

-- keyMatch2
abbrev pub colon_front : List ℕ → List ℕ
colon_front pattern = plain_bytes (colon_pieces pattern)

-- keyMatch3 to keyMatch5
abbrev pub brace_front : List ℕ → List ℕ
brace_front pattern = plain_bytes (brace_pieces pattern)

-- globMatch
abbrev pub glob_front : List ℕ → List ℕ
glob_front pattern = plain_bytes (glob_pieces pattern)

-- the text begins with the front, and where the front is the whole pattern, the text is the pattern
pub record HasFront (front pattern text : List ℕ) : Type 0 where
  pub behind : List ℕ
  pub begins : text ≡ front ++ behind
  pub whole : front ≡ pattern → text ≡ pattern
