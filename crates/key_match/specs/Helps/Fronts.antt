-- Pieces that are one byte for itself.
use Rattle.std.specs.Prelude.{Bool, true, false}
use Rattle.key_match.specs.Pieces.{Piece, Only, NotSlash, Class, One, Segment, Stretch, Rest}

abbrev pub is_itself : Piece → Bool
is_itself (One (Only byte)) = true
is_itself (One NotSlash) = false
is_itself (One (Class negated ranges)) = false
is_itself (Segment name) = false
is_itself Stretch = false
is_itself Rest = false
