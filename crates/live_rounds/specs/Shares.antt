-- The parts of a round.
use Rattle.std.specs.Prelude.{◌≡◌, ℕ, List, [], ◌∷◌, ◌++◌, length, map}
use Rattle.std.specs.List.{AllByRecursion}
use Rattle.live_rounds.specs.Requests.{AreParts, requests}
use Rattle.live_rounds.specs.Stretches.{IsCounted, items_of}
use Rattle.live_rounds.specs.declared.stretch.Stretch.{Stretch}
use Rattle.script_read.specs.Said.{Said}

-- behind others stand parts of items, one for a worker and one for each of so many others
pub record AddsParts (others : ℕ) (items : List Said) (old new : List Stretch) : Type 0 where
  pub more : List Stretch
  pub added : new ≡ old ++ more
  pub parts : AreParts others items (map items_of more)
  pub counted : AllByRecursion IsCounted more

-- lists one behind the other
abbrev pub in_turn : {X : Type 0} → List (List X) → List X
in_turn [] = []
in_turn (xs ∷ lists) = xs ++ in_turn lists

-- a version for each request of a part
abbrev pub HasEach : List Said → List ℕ → Type 0
HasEach part versions = length versions ≡ length (requests part)
