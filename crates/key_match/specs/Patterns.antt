-- The pieces that a pattern reads as by its signs (`Signs`), taken byte by byte; that it reads as these, and as no others, is a law
-- (Casbin, functions in matchers: keyMatch2 to keyMatch5, keyGet2, keyGet3, globMatch).
use Rattle.std.specs.Prelude.{ℕ, zero, suc, ◌+◌, Bool, true, false, not, ◌&&◌, ◌||◌, List, [], ◌∷◌, length, drop, ◌==◌, if◌then◌else◌}
use Rattle.std.specs.List.{take_while}
use Rattle.key_match.specs.Pieces.{not_slash, Range, Piece, Only, NotSlash, Class, One, Segment, Stretch, Rest}

abbrev pub begins_with : ℕ → List ℕ → Bool
begins_with byte [] = false
begins_with byte (first ∷ rest) = first == byte

abbrev pub is_some_text : List ℕ → Bool
is_some_text [] = false
is_some_text (byte ∷ rest) = true

-- the pattern `*`
abbrev pub is_lone_star : List ℕ → Bool
is_lone_star [] = false
is_lone_star (byte ∷ []) = byte == 42
is_lone_star (byte ∷ next ∷ rest) = false

-- a piece, and how many bytes of the pattern belong to it after its first
pub record FirstPiece : Type 0 where
  pub piece : Piece
  pub further : ℕ

-- a reader of the piece that begins at a byte, given the byte before it and the bytes after it
abbrev pub Reader : Type 0
Reader = ℕ → ℕ → List ℕ → FirstPiece

-- the pieces of what stands after the byte `before`, without its first `passed` bytes
unfoldable pub reading : Reader → ℕ → ℕ → List ℕ → List Piece
reading first passed before [] = []
reading first (suc passed) before (byte ∷ after) = reading first passed byte after
reading first zero before (byte ∷ after) = (first before byte after).piece ∷ reading first (first before byte after).further byte after

-- a byte that stands for itself
abbrev pub literal : ℕ → FirstPiece
literal byte = record { piece = One (Only byte); further = 0 }

-- `*` after `/`, or a byte that stands for itself
abbrev pub rest_or_literal : ℕ → ℕ → FirstPiece
rest_or_literal before byte = if byte == 42 && before == 47 then record { piece = Rest; further = 0 } else literal byte

-- keyMatch2 and keyGet2: `:name` up to the next `/`
abbrev pub colon_piece : Reader
colon_piece before byte after =
    let name = take_while not_slash after in
    if byte == 58 && is_some_text name then record { piece = Segment name; further = length name } else rest_or_literal before byte

abbrev pub in_braces : ℕ → Bool
in_braces byte = not (byte == 47 || byte == 123 || byte == 125)

-- keyMatch3 to keyMatch5 and keyGet3: `{name}`
abbrev pub brace_piece : Reader
brace_piece before byte after =
    let name = take_while in_braces after in
    if byte == 123 && is_some_text name && begins_with 125 (drop (length name) after)
    then record { piece = Segment name; further = length name + 1 } else rest_or_literal before byte

-- the pattern `*` alone fits everything
abbrev pub key_pieces : Reader → List ℕ → List Piece
key_pieces first pattern = if is_lone_star pattern then Rest ∷ [] else reading first 0 0 pattern

abbrev pub colon_pieces : List ℕ → List Piece
colon_pieces pattern = key_pieces colon_piece pattern

abbrev pub brace_pieces : List ℕ → List Piece
brace_pieces pattern = key_pieces brace_piece pattern

-- the items of a class, from the left: `a-b`, or one byte
unfoldable pub ranges_of : List ℕ → List Range
ranges_of [] = []
ranges_of (a ∷ []) = record { first = a; last = a } ∷ []
ranges_of (a ∷ b ∷ []) = record { first = a; last = a } ∷ record { first = b; last = b } ∷ []
ranges_of (a ∷ b ∷ c ∷ rest) =
    if b == 45 then record { first = a; last = c } ∷ ranges_of rest else record { first = a; last = a } ∷ ranges_of (b ∷ c ∷ rest)

abbrev pub in_class : ℕ → Bool
in_class byte = not (byte == 93)

-- the items of a class and its `]`, after `[` or `[^`; without them the `[` stands for itself
abbrev pub items_or_literal : Bool → ℕ → List ℕ → FirstPiece
items_or_literal negated sign body =
    let items = take_while in_class body in
    if is_some_text items && begins_with 93 (drop (length items) body)
    then record { piece = One (Class negated (ranges_of items)); further = sign + length items + 1 } else literal 91

abbrev pub class_or_literal : List ℕ → FirstPiece
class_or_literal after =
    if begins_with 94 after then items_or_literal true 1 (drop 1 after) else items_or_literal false 0 after

-- globMatch: `*`, `?` and classes
abbrev pub glob_piece : Reader
glob_piece before byte after =
    if byte == 42 then record { piece = Stretch; further = 0 } else
    if byte == 63 then record { piece = One NotSlash; further = 0 } else
    if byte == 91 then class_or_literal after else literal byte

abbrev pub glob_pieces : List ℕ → List Piece
glob_pieces pattern = reading glob_piece 0 0 pattern
