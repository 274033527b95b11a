-- Equal names stand for equal parts (Casbin, functions in matchers: keyMatch4).
use Rattle.std.specs.Prelude.{◌≡◌, ℕ, List, [], ◌∷◌, IsTrue, ⊤}
use Rattle.key_match.specs.Pieces.{Piece, Divides}
use Rattle.key_match.specs.Divisions.{has_name}

-- each segment of the name has this part
abbrev pub EachNamed : List ℕ → List ℕ → List Piece → List (List ℕ) → Type 0
EachNamed name part [] parts = ⊤
EachNamed name part (piece ∷ pieces) [] = ⊤
EachNamed name part (piece ∷ pieces) (found ∷ parts) = (IsTrue (has_name name piece) → found ≡ part) × EachNamed name part pieces parts

-- segments of one name have one part
abbrev pub NamesAgree : List Piece → List (List ℕ) → Type 0
NamesAgree [] parts = ⊤
NamesAgree (piece ∷ pieces) [] = ⊤
NamesAgree (piece ∷ pieces) (part ∷ parts) = ((name : List ℕ) → IsTrue (has_name name piece) → EachNamed name part pieces parts) × NamesAgree pieces parts

abbrev pub CoversAlike : List Piece → List ℕ → Type 0
CoversAlike pieces text = (parts : List (List ℕ)) × Divides pieces text parts × NamesAgree pieces parts
