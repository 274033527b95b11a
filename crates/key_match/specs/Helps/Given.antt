-- What the search for a division with equal parts of equal names says.
use Rattle.std.specs.Prelude.{◌≡◌, ◌≤◌, ℕ, Bool, true, false, not, ◌&&◌, List, [], ◌∷◌, ⊤, length, drop, Option, None, Some, is_some, if◌then◌else◌}
use Rattle.std.specs.List.{list_any}
use Rattle.std.specs.Str.{bytes_eq}
use Rattle.key_match.specs.Pieces.{Piece, One, Segment, Stretch, Rest, StandsFor, Divides}
use Rattle.key_match.specs.Divisions.{has_name}
use Rattle.key_match.specs.Names.{NamesAgree}
use Rattle.key_match.specs.Helps.Fits.{pieces_fit, pieces_from}
use Rattle.key_match.specs.Helps.Parts.{part_between}
use Rattle.key_match.specs.declared.token.Dialect.TheVariants.{Brace}
use Rattle.key_match.specs.declared.fit.Place.{Place}
use Rattle.key_match.specs.declared.alike.Given.{Given, Nothing, And'}

-- the part that a name was given
abbrev pub given_part : Given → List ℕ → Option (List ℕ)
given_part Nothing name = None
given_part (And' found part p before) name = if bytes_eq found.now name then Some part.now else given_part before name

-- each part that was given can stand for a segment
abbrev pub AreParts : Given → Type 0
AreParts Nothing = ⊤
AreParts (And' name part p before) = StandsFor (Segment name.now) part.now × AreParts before

-- the part that was given to the name of a piece
abbrev pub given_to : Given → Piece → Option (List ℕ)
given_to given (Segment name) = given_part given name
given_to given (One bytes) = None
given_to given Stretch = None
given_to given Rest = None

abbrev pub repeats : Piece → List Piece → Bool
repeats (Segment name) pieces = list_any (has_name name) pieces
repeats (One bytes) pieces = false
repeats Stretch pieces = false
repeats Rest pieces = false

-- no name was given a part, and none comes twice
abbrev pub is_free_of : Given → List Piece → Bool
is_free_of given [] = true
is_free_of given (piece ∷ pieces) = not (is_some (given_to given piece)) && not (repeats piece pieces) && is_free_of given pieces

-- each segment whose name was given a part has that part
abbrev pub GivenAgree : Given → List Piece → List (List ℕ) → Type 0
GivenAgree given [] parts = ⊤
GivenAgree given (piece ∷ pieces) [] = ⊤
GivenAgree given (piece ∷ pieces) (part ∷ parts) = ((wanted : List ℕ) → given_to given piece ≡ Some wanted → part ≡ wanted) × GivenAgree given pieces parts

pub record CoversGiven (given : Given) (pieces : List Piece) (text : List ℕ) : Type 0 where
  pub parts : List (List ℕ)
  pub divides : Divides pieces text parts
  pub names : NamesAgree pieces parts
  pub agree : GivenAgree given pieces parts

-- a piece without a name
pub record IsNameless (piece : Piece) : Type 0 where
  pub unnamed : (name : List ℕ) → has_name name piece ≡ false
  pub ungiven : (given : Given) → given_to given piece ≡ None

-- a division with this end of the first part
abbrev pub CutsAlike : Given → Piece → List Piece → List ℕ → ℕ → ℕ → Type 0
CutsAlike given piece pieces key from end =
    (parts : List (List ℕ)) × Divides pieces (drop end key) parts × NamesAgree (piece ∷ pieces) (part_between key from end ∷ parts)
    × GivenAgree given (piece ∷ pieces) (part_between key from end ∷ parts)

-- what follows is divided alike from both places, and fits
pub record PassesTo (pattern key : List ℕ) (from to : Place) : Type 0 where
  pub pattern_from : from.pattern ≤ to.pattern
  pub key_within : to.key ≤ length key
  pub fitting : pieces_fit (pieces_from Brace pattern to) (drop to.key key) ≡ true
  pub forward : (given : Given) → CoversGiven given (pieces_from Brace pattern from) (drop from.key key) → CoversGiven given (pieces_from Brace pattern to) (drop to.key key)
  pub backward : (given : Given) → CoversGiven given (pieces_from Brace pattern to) (drop to.key key) → CoversGiven given (pieces_from Brace pattern from) (drop from.key key)
