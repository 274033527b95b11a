-- What the reader of tokens gives: the pieces of the pattern, from a place on.
use Rattle.std.specs.Prelude.{◌≡◌, ◌≤◌, ◌<◌, ℕ, zero, suc, ◌+◌, List, [], ◌∷◌, length, drop, slice_index, if◌then◌else◌}
use Rattle.key_match.specs.Pieces.{ByteSet, Piece, Only, NotSlash, Class, One, Segment, Stretch, Rest}
use Rattle.key_match.specs.Patterns.{FirstPiece, Reader, reading, is_lone_star, colon_piece, brace_piece, glob_piece, colon_pieces, brace_pieces, glob_pieces, ranges_of}
use Rattle.key_match.specs.declared.token.Dialect.{Dialect}
use Rattle.key_match.specs.declared.token.Dialect.TheVariants.{Colon, Brace, Glob}
use Rattle.key_match.specs.declared.token.Token.{Token}
use Rattle.key_match.specs.declared.token.Token.TheVariants as token
use Rattle.key_match.specs.declared.token.ByteTest.{ByteTest}
use Rattle.key_match.specs.declared.token.ByteTest.TheVariants as test
use Rattle.key_match.specs.declared.token.Reading.{Reading}
use Rattle.key_match.specs.declared.token.ClassItem.{ClassItem}

abbrev pub set_of : ByteTest → ByteSet
set_of (test.Only byte) = Only byte
set_of test.NotSlash = NotSlash
set_of (test.Class negated items) = Class negated (ranges_of items.now)

abbrev pub piece_of : Token → Piece
piece_of (token.One byte) = One (set_of byte)
piece_of (token.Segment name) = Segment name.now
piece_of token.Stretch = Stretch
piece_of token.Rest = Rest

abbrev pub reader_of : Dialect → Reader
reader_of Colon = colon_piece
reader_of Brace = brace_piece
reader_of Glob = glob_piece

-- the pieces of a whole pattern
abbrev pub pieces_of : Dialect → List ℕ → List Piece
pieces_of Colon pattern = colon_pieces pattern
pieces_of Brace pattern = brace_pieces pattern
pieces_of Glob pattern = glob_pieces pattern

-- the byte before a place of a text that itself stands after the byte `start`
abbrev pub last_byte : ℕ → List ℕ → ℕ → ℕ
last_byte start text zero = start
last_byte start [] (suc at) = start
last_byte start (byte ∷ rest) (suc at) = last_byte byte rest at

-- the byte before a place of a pattern; a lone `*` is read as if it stood after `/`
abbrev pub byte_before : List ℕ → ℕ → ℕ
byte_before pattern at = last_byte (if is_lone_star pattern then 47 else 0) pattern at

-- the pieces from a place of the pattern on
unfoldable pub pieces_at : Dialect → List ℕ → ℕ → List Piece
pieces_at dialect pattern at = reading (reader_of dialect) 0 (byte_before pattern at) (drop at pattern)

-- the token is this first piece of what begins at the place
pub record IsFirst (first : FirstPiece) (at : ℕ) (found : Reading) : Type 0 where
  pub piece : piece_of found.token ≡ first.piece
  pub next : found.next ≡ at + 1 + first.further

-- what a reader makes of the byte at a place
abbrev pub first_at : Reader → List ℕ → ℕ → FirstPiece
first_at first pattern at = first (byte_before pattern at) (slice_index pattern at) (drop (at + 1) pattern)

-- the token read there is the first of the pieces
pub record IsReadAt (dialect : Dialect) (pattern : List ℕ) (at : ℕ) (found : Reading) : Type 0 where
  pub pieces : pieces_at dialect pattern at ≡ piece_of found.token ∷ pieces_at dialect pattern found.next
  pub after : at < found.next
  pub within : found.next ≤ length pattern

-- the item read at a place of a class is the first of its ranges
pub record IsItemAt (items : List ℕ) (at : ℕ) (found : ClassItem) : Type 0 where
  pub ranges : ranges_of (drop at items) ≡ record { first = found.first; last = found.last } ∷ ranges_of (drop found.next items)
  pub after : at < found.next
  pub within : found.next ≤ length items
