-- Which division of a key counts where several fit, and the part that it gives a name. Casbin's keyGet2 and keyGet3
-- leave this open; both orders are this project's own.
use Rattle.std.specs.Prelude.{◌≡◌, ◌<◌, ◌⊎◌, ℕ, Bool, false, List, [], ◌∷◌, length, if◌then◌else◌}
use Rattle.std.specs.Str.{bytes_eq}
use Rattle.key_match.specs.Pieces.{Piece, One, Segment, Stretch, Rest, Divides, Covers}

-- for a piece, whether a part of the first length goes before one of the second
abbrev pub Order : Type 1
Order = Piece → ℕ → ℕ → Type 0

-- keyGet2
abbrev pub LongerFirst : Order
LongerFirst piece one other = other < one

-- keyGet3
abbrev pub ShorterSegmentFirst : Order
ShorterSegmentFirst (Segment name) one other = one < other
ShorterSegmentFirst (One bytes) one other = other < one
ShorterSegmentFirst Stretch one other = other < one
ShorterSegmentFirst Rest one other = other < one

-- at the first piece where two divisions have parts of different lengths, that of the first goes before
abbrev pub GoesBefore : Order → List Piece → List (List ℕ) → List (List ℕ) → Type 0
GoesBefore order [] parts others = ⊥
GoesBefore order (piece ∷ pieces) [] others = ⊥
GoesBefore order (piece ∷ pieces) (part ∷ parts) [] = ⊥
GoesBefore order (piece ∷ pieces) (part ∷ parts) (other ∷ others) =
    order piece (length part) (length other) ⊎ ((length part ≡ length other) × GoesBefore order pieces parts others)

-- the division that no other goes before
pub record IsFirstDivision (order : Order) (pieces : List Piece) (text : List ℕ) (parts : List (List ℕ)) : Type 0 where
  pub divides : Divides pieces text parts
  pub first : (others : List (List ℕ)) → Divides pieces text others → ¬ GoesBefore order pieces others parts

abbrev pub has_name : List ℕ → Piece → Bool
has_name name (Segment found) = bytes_eq found name
has_name name (One bytes) = false
has_name name Stretch = false
has_name name Rest = false

-- the part of the first segment with the name, or the empty text
abbrev pub part_named : List ℕ → List Piece → List (List ℕ) → List ℕ
part_named name [] parts = []
part_named name (piece ∷ pieces) [] = []
part_named name (piece ∷ pieces) (part ∷ parts) = if has_name name piece then part else part_named name pieces parts

-- the part that the first division gives the name; empty where the key does not fit
abbrev pub IsNamedPart : Order → List Piece → List ℕ → List ℕ → List ℕ → Type 0
IsNamedPart order pieces key name found =
    ((parts : List (List ℕ)) × IsFirstDivision order pieces key parts × (found ≡ part_named name pieces parts)) ⊎ ((¬ Covers pieces key) × (found ≡ []))
