-- Whether pieces cover a text, tested from the front, and what the matcher's steps say of it.
use Rattle.std.specs.Prelude.{◌≡◌, ◌<◌, ◌≤◌, ℕ, Bool, true, false, not, ◌&&◌, ◌||◌, List, [], ◌∷◌, length, drop}
use Rattle.key_match.specs.Pieces.{not_slash, has, Piece, One, Segment, Stretch, Rest}
use Rattle.key_match.specs.Patterns.{is_some_text}
use Rattle.key_match.specs.Helps.Tokens.{pieces_at}
use Rattle.key_match.specs.declared.token.Dialect.{Dialect}
use Rattle.key_match.specs.declared.fit.Place.{Place}
use Rattle.key_match.specs.declared.fit.RunEnd.{RunEnd}
use Rattle.key_match.specs.declared.fit.RunEnd.TheVariants as stop
use Rattle.key_match.specs.declared.fit.Reach.{Reach}
use Rattle.key_match.specs.declared.fit.Reach.TheVariants as reach

-- the first byte passes, and what is after it fits
abbrev pub byte_fits : (ℕ → Bool) → (List ℕ → Bool) → List ℕ → Bool
byte_fits test after [] = false
byte_fits test after (byte ∷ rest) = test byte && after rest

-- what is left past some first bytes without `/` fits
abbrev pub stretch_fits : (List ℕ → Bool) → List ℕ → Bool
stretch_fits after [] = after []
stretch_fits after (byte ∷ rest) = after (byte ∷ rest) || (not_slash byte && stretch_fits after rest)

-- what is left past some first bytes fits
abbrev pub end_fits : (List ℕ → Bool) → List ℕ → Bool
end_fits after [] = after []
end_fits after (byte ∷ rest) = after (byte ∷ rest) || end_fits after rest

abbrev pub piece_fits : Piece → (List ℕ → Bool) → List ℕ → Bool
piece_fits (One bytes) after text = byte_fits (has bytes) after text
piece_fits (Segment name) after text = byte_fits not_slash (stretch_fits after) text
piece_fits Stretch after text = stretch_fits after text
piece_fits Rest after text = end_fits after text

abbrev pub pieces_fit : List Piece → List ℕ → Bool
pieces_fit [] text = not (is_some_text text)
pieces_fit (piece ∷ pieces) text = piece_fits piece (pieces_fit pieces) text

-- the second pieces fit the second text where the first fit the first, and still do where some first bytes
-- (without `/`, or any) are left out there
pub record LeadsTo (pieces : List Piece) (text : List ℕ) (later : List Piece) (left : List ℕ) : Type 0 where
  pub same : pieces_fit pieces text ≡ pieces_fit later left
  pub in_stretch : stretch_fits (pieces_fit pieces) text ≡ true → stretch_fits (pieces_fit later) left ≡ true
  pub anywhere : end_fits (pieces_fit pieces) text ≡ true → end_fits (pieces_fit later) left ≡ true

-- a later place within the pattern and the key
pub record IsAhead (pattern key : List ℕ) (from to : Place) : Type 0 where
  pub pattern_after : from.pattern < to.pattern
  pub pattern_within : to.pattern ≤ length pattern
  pub key_from : from.key ≤ to.key
  pub key_within : to.key ≤ length key

abbrev pub pieces_from : Dialect → List ℕ → Place → List Piece
pieces_from dialect pattern from = pieces_at dialect pattern from.pattern

-- the matcher went on to pieces that begin with `piece`
pub record GoesTo (dialect : Dialect) (pattern key : List ℕ) (pieces : List Piece) (from : Place) (piece : Piece) (to : Place) : Type 0 where
  pub leads : LeadsTo pieces (drop from.key key) (piece ∷ pieces_from dialect pattern to) (drop to.key key)
  pub ahead : IsAhead pattern key from to

-- what each stop says
abbrev pub StopsAt : Dialect → List ℕ → List ℕ → Place → RunEnd → Type 0
StopsAt dialect pattern key from stop.Fits = pieces_fit (pieces_from dialect pattern from) (drop from.key key) ≡ true
StopsAt dialect pattern key from stop.Mismatch = pieces_fit (pieces_from dialect pattern from) (drop from.key key) ≡ false
StopsAt dialect pattern key from stop.KeyEnded = end_fits (pieces_fit (pieces_from dialect pattern from)) (drop from.key key) ≡ false
StopsAt dialect pattern key from (stop.Stretch to) = GoesTo dialect pattern key (pieces_from dialect pattern from) from Stretch to
StopsAt dialect pattern key from (stop.Rest to) = GoesTo dialect pattern key (pieces_from dialect pattern from) from Rest to

-- the same up to the next rest, for pieces that begin at a place
abbrev pub Reaches : Dialect → List ℕ → List ℕ → List Piece → Place → Reach → Type 0
Reaches dialect pattern key pieces from reach.Fits = pieces_fit pieces (drop from.key key) ≡ true
Reaches dialect pattern key pieces from reach.NotHere = pieces_fit pieces (drop from.key key) ≡ false
Reaches dialect pattern key pieces from reach.NotBeforeSlash = stretch_fits (pieces_fit pieces) (drop from.key key) ≡ false
Reaches dialect pattern key pieces from reach.Nowhere = end_fits (pieces_fit pieces) (drop from.key key) ≡ false
Reaches dialect pattern key pieces from (reach.Rest to) = GoesTo dialect pattern key pieces from Rest to
