-- The requests of a round.
use Rattle.std.specs.Prelude.{◌≡◌, ℕ, zero, suc, List, [], ◌∷◌, ◌++◌, length}
use Rattle.script_read.specs.Said.{Reading, Said}
use Rattle.script_read.specs.Said as said
use Rattle.session_meaning.specs.Rounds.{share_size}

-- the requests of items, in their order
abbrev pub requests : List Said → List Reading
requests [] = []
requests (said.asks reading ∷ items) = reading ∷ requests items
requests (item ∷ items) = requests items

-- of what stands beside items, what stands beside requests
abbrev pub at_each_request : {X : Type 0} → List Said → List X → List X
at_each_request (said.asks reading ∷ items) (x ∷ xs) = x ∷ at_each_request items xs
at_each_request (item ∷ items) (x ∷ xs) = at_each_request items xs
at_each_request _ _ = []

-- items in parts, one for a worker and one for each of so many others: each has as many requests as its worker's share, and the last
-- has all that is left
abbrev pub AreParts : (others : ℕ) → List Said → List (List Said) → Type 0
AreParts zero items (part ∷ []) = part ≡ items
AreParts (suc others) items (part ∷ parts) = (rest : List Said) × (items ≡ part ++ rest) × (length (requests part) ≡ share_size (suc others) (length (requests items))) × AreParts others rest parts
AreParts _ _ _ = ⊥
