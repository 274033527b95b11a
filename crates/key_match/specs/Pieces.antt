-- The pieces of key patterns and globs, and the texts that they cover
-- (Casbin, functions in matchers: keyMatch2 to keyMatch5, keyGet2, keyGet3, globMatch).
use Rattle.std.specs.Prelude.{◌≡◌, ◌≢◌, ℕ, Bool, false, not, ◌&&◌, List, [], ◌∷◌, IsTrue, ⊤, if◌then◌else◌, ◌==◌, nat_le}
use Rattle.std.specs.List.{concat, list_all, list_any}

abbrev pub not_slash : ℕ → Bool
not_slash byte = not (byte == 47)

-- from the first to the second byte, both included
pub record Range : Type 0 where
  pub first : ℕ
  pub last : ℕ

abbrev pub in_range : ℕ → Range → Bool
in_range byte range = nat_le range.first byte && nat_le byte range.last

-- what one byte may be
pub data ByteSet : Type 0 where
  -- itself
  Only : (byte : ℕ) → ByteSet
  -- any but `/`
  NotSlash : ByteSet
  -- any but `/` that is in one of the ranges, or in none of them
  Class : (negated : Bool) → (ranges : List Range) → ByteSet

abbrev pub has : ByteSet → ℕ → Bool
has (Only wanted) byte = byte == wanted
has NotSlash byte = not_slash byte
has (Class negated ranges) byte = not_slash byte && (let among = list_any (in_range byte) ranges in if negated then not among else among)

pub data Piece : Type 0 where
  -- one byte of a set
  One : ByteSet → Piece
  -- one or more bytes without `/`
  Segment : (name : List ℕ) → Piece
  -- any bytes without `/`, none included
  Stretch : Piece
  -- any bytes, none included
  Rest : Piece

abbrev pub is_one : (ℕ → Bool) → List ℕ → Bool
is_one test [] = false
is_one test (byte ∷ []) = test byte
is_one test (byte ∷ next ∷ more) = false

-- what a piece stands for
abbrev pub StandsFor : Piece → List ℕ → Type 0
StandsFor (One bytes) part = IsTrue (is_one (has bytes) part)
StandsFor (Segment name) part = (part ≢ []) × IsTrue (list_all not_slash part)
StandsFor Stretch part = IsTrue (list_all not_slash part)
StandsFor Rest part = ⊤

-- each piece stands for the part in its place
abbrev pub EachStandsFor : List Piece → List (List ℕ) → Type 0
EachStandsFor [] [] = ⊤
EachStandsFor [] (part ∷ parts) = ⊥
EachStandsFor (piece ∷ pieces) [] = ⊥
EachStandsFor (piece ∷ pieces) (part ∷ parts) = StandsFor piece part × EachStandsFor pieces parts

-- the text is divided into these parts
pub record Divides (pieces : List Piece) (text : List ℕ) (parts : List (List ℕ)) : Type 0 where
  pub whole : concat parts ≡ text
  pub each : EachStandsFor pieces parts

abbrev pub Covers : List Piece → List ℕ → Type 0
Covers pieces text = (parts : List (List ℕ)) × Divides pieces text parts
