-- A square from which links are taken out: the distances that went by them are found anew.
use Rattle.std.specs.Prelude.{◌≡◌, ◌⊎◌, ◌<◌, ◌≤◌, ◌+◌, ◌↔◌, ℕ, Bool, List, length}
use Rattle.dist_rows.specs.Squares.{IsSquare, cell_of, sum_of}
use Rattle.role_graph.specs.Helps.Squares.{Chain, IsMarked, IsNear, IsNodeLink}
use Rattle.role_graph.specs.Helps.Walks.{Linked}

-- what is near in the square, and is the same node or linked in the graph still
pub record IsKept (linked : Linked) (names cells : List (List ℕ)) (a b : ℕ) : Type 0 where
  pub near : IsNear cells a b
  pub still : (a ≡ b) ⊎ IsNodeLink linked names a b

-- of the nodes that are a link away from one just those are marked that are kept
abbrev pub AreLeft : Linked → List (List ℕ) → List (List ℕ) → ℕ → List Bool → Type 0
AreLeft linked names old a left = (b : ℕ) → b < length old → cell_of old a b ≡ 1 → IsMarked left b ↔ IsKept linked names old a b

-- each node is marked from which a shortest way goes by something near that is not kept
abbrev pub AreHit : Linked → List (List ℕ) → List (List ℕ) → List Bool → Type 0
AreHit linked names cells hits = (a from to : ℕ) → a < length cells → IsNear cells from to → cell_of cells a to ≡ 1 + cell_of cells a from → IsKept linked names cells from to ⊎ IsMarked hits a

-- the row of a node, before a place: it tells what is kept, and no more
pub record IsReset (linked : Linked) (names old : List (List ℕ)) (a upto : ℕ) (cells : List (List ℕ)) : Type 0 where
  pub each : (b : ℕ) → b < upto → (IsKept linked names old a b × (cell_of cells a b ≡ cell_of old a b)) ⊎ ((¬ IsKept linked names old a b) × (cell_of cells a b ≡ 255))

-- each distance is that of a chain of what is kept, or none; those from nodes that are not marked are the least
pub record IsMending (linked : Linked) (names old : List (List ℕ)) (hits : List Bool) (cells : List (List ℕ)) : Type 0 where
  pub long : length cells ≡ length old
  pub square : IsSquare cells
  pub small : (a b : ℕ) → a < length old → b < length old → cell_of cells a b ≤ 255
  pub own : (a : ℕ) → a < length old → cell_of cells a a ≡ 0
  pub sound : (a b : ℕ) → a < length old → b < length old → cell_of cells a b ≤ 254 → Chain (IsKept linked names old) (cell_of cells a b) a b
  pub near : (a b : ℕ) → IsKept linked names old a b → cell_of cells a b ≤ 1
  pub still : (a b k : ℕ) → a < length old → b < length old → (¬ IsMarked hits a) → k ≤ 254 → Chain (IsKept linked names old) k a b → cell_of cells a b ≤ k

-- the distances of at most so many links are told
abbrev pub AreTold : Linked → List (List ℕ) → List (List ℕ) → ℕ → List (List ℕ) → Type 0
AreTold linked names old most cells = (a b k : ℕ) → a < length old → b < length old → k ≤ most → k ≤ 254 → Chain (IsKept linked names old) k a b → cell_of cells a b ≤ k

-- the row of a node is not lower by way of any that is a link away
abbrev pub IsStableAt : List (List ℕ) → ℕ → Type 0
IsStableAt cells a = (next b : ℕ) → next < length cells → cell_of cells a next ≡ 1 → b < length cells → cell_of cells a b ≤ sum_of 1 (cell_of cells next b)

-- so are the rows of marked nodes
abbrev pub IsStable : List Bool → List (List ℕ) → Type 0
IsStable hits cells = (a : ℕ) → a < length cells → IsMarked hits a → IsStableAt cells a
