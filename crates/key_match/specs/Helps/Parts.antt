-- What the search for a piece's part says.
use Rattle.std.specs.Prelude.{◌≡◌, ◌≤◌, ◌<◌, ◌-◌, ℕ, true, false, List, length, take, drop}
use Rattle.key_match.specs.Pieces.{Piece, StandsFor}
use Rattle.key_match.specs.Divisions.{Order, LongerFirst, ShorterSegmentFirst}
use Rattle.key_match.specs.Helps.Fits.{pieces_fit}
use Rattle.key_match.specs.declared.part.Choice.{Choice}
use Rattle.key_match.specs.declared.part.Choice.TheVariants.{Longest, Shortest}
use Rattle.key_match.specs.declared.part.Ends.{Ends}

abbrev pub order_of : Choice → Order
order_of Longest = LongerFirst
order_of Shortest = ShorterSegmentFirst

-- the bytes of the key between two places
abbrev pub part_between : List ℕ → ℕ → ℕ → List ℕ
part_between key from end = take (end - from) (drop from key)

-- some part for the piece begins at the place
abbrev pub HasPart : Piece → List ℕ → ℕ → Type 0
HasPart piece key from = (end : ℕ) × (from ≤ end) × (end ≤ length key) × StandsFor piece (part_between key from end)

-- the least and the greatest place where a part may end
pub record AreEnds (piece : Piece) (key : List ℕ) (from : ℕ) (ends : Ends) : Type 0 where
  pub from_least : from ≤ ends.least
  pub ordered : ends.least ≤ ends.most
  pub within : ends.most ≤ length key
  pub all : (end : ℕ) → ends.least ≤ end → end ≤ ends.most → StandsFor piece (part_between key from end)
  pub only : (end : ℕ) → from ≤ end → end ≤ length key → StandsFor piece (part_between key from end) → (ends.least ≤ end) × (end ≤ ends.most)

-- the rest fits from no place after this one, of those from `least` to `most`
pub record NoneLater (pieces : List Piece) (key : List ℕ) (least most found : ℕ) : Type 0 where
  pub from_least : least ≤ found
  pub to_most : found ≤ most
  pub later : (end : ℕ) → found < end → end ≤ most → pieces_fit pieces (drop end key) ≡ false

-- nor from one before it
pub record NoneEarlier (pieces : List Piece) (key : List ℕ) (least most found : ℕ) : Type 0 where
  pub from_least : least ≤ found
  pub to_most : found ≤ most
  pub earlier : (end : ℕ) → least ≤ end → end < found → pieces_fit pieces (drop end key) ≡ false

-- the end of the part that goes before all others with which the rest fits
pub record IsChosen (order : Order) (piece : Piece) (pieces : List Piece) (key : List ℕ) (from end : ℕ) : Type 0 where
  pub after_from : from ≤ end
  pub within : end ≤ length key
  pub stands : StandsFor piece (part_between key from end)
  pub rest : pieces_fit pieces (drop end key) ≡ true
  pub first : (other : ℕ) → from ≤ other → other ≤ length key → StandsFor piece (part_between key from other) → pieces_fit pieces (drop other key) ≡ true → ¬ order piece (other - from) (end - from)
