-- Squares of the distances between roles: a node stands for a role, and a chain of links leads from node to node.
use Rattle.std.specs.Prelude.{◌≡◌, ◌⊎◌, ◌<◌, ◌≤◌, ◌+◌, ℕ, zero, suc, Bool, true, false, List, [], None, length, map, get_or}
use Rattle.std.specs.List.{Contains, IsDistinct}
use Rattle.std.specs.Str.{bytes_eq}
use Rattle.dist_rows.specs.Squares.{IsSquare, cell_of}
use Rattle.role_meaning.specs.Distances.{IsFar, farthest}
use Rattle.role_meaning.specs.Least.{IsLeast}
use Rattle.role_meaning.specs.Links.{role_of}
use Rattle.role_graph.specs.Graph.{shape_of}
use Rattle.role_graph.specs.Groups.{rows_of}
use Rattle.role_graph.specs.Helps.Walks.{IsLink, Linked}

-- ---- nodes and links between them

-- a chain of at most so many links leads from the one node to the other
unfoldable pub Chain : (ℕ → ℕ → Type 0) → ℕ → ℕ → ℕ → Type 0
Chain Link zero a b = a ≡ b
Chain Link (suc links) a b = (a ≡ b) ⊎ ((next : ℕ) × Link a next × Chain Link links next b)

-- a chain of at most so many links that goes by the link from `from` to `to`
pub record Through (Link : ℕ → ℕ → Type 0) (from to links a b : ℕ) : Type 0 where
  pub before : ℕ
  pub behind : ℕ
  pub few : suc (before + behind) ≤ links
  pub first : Chain Link before a from
  pub last : Chain Link behind to b

-- ---- squares

-- two nodes that are at most one link apart
pub record IsNear (cells : List (List ℕ)) (a b : ℕ) : Type 0 where
  pub first : a < length cells
  pub second : b < length cells
  pub near : cell_of cells a b ≤ 1

-- each cell is the least number of links, where what is near is linked
pub record IsClosed (cells : List (List ℕ)) : Type 0 where
  pub square : IsSquare cells
  pub least : (a b : ℕ) → a < length cells → b < length cells → IsLeast farthest (λ links. Chain (IsNear cells) links a b) (cell_of cells a b)

-- some links were added, and all distances are such as they make them
pub record Grows (Allowed : ℕ → ℕ → Type 0) (old new : List (List ℕ)) : Type 0 where
  pub closed : IsClosed new
  pub keeps : (a b : ℕ) → IsNear old a b → IsNear new a b
  pub only : (a b : ℕ) → IsNear new a b → IsNear old a b ⊎ Allowed a b

-- ---- squares of a graph

abbrev pub name_at : List (List ℕ) → ℕ → List ℕ
name_at names a = get_or names a []

-- the names are the roles of the rows, each once
pub record AreNodes (linked : Linked) (names : List (List ℕ)) : Type 0 where
  pub once : IsDistinct bytes_eq names
  pub all : (role : List ℕ) → Contains (map role_of (rows_of linked.groups)) role → Contains names role
  pub only : (role : List ℕ) → Contains names role → Contains (map role_of (rows_of linked.groups)) role

-- a row links the name of the one node to that of the other
abbrev pub IsNodeLink : Linked → List (List ℕ) → ℕ → ℕ → Type 0
IsNodeLink linked names a b = IsLink linked (name_at names a) (name_at names b)

-- each cell is the distance between two roles of the graph
pub record IsExact (linked : Linked) (names : List (List ℕ)) (cells : List (List ℕ)) : Type 0 where
  pub long : length cells ≡ length names
  pub square : IsSquare cells
  pub far : (a b : ℕ) → a < length names → b < length names → IsFar (shape_of linked.names) (rows_of linked.groups) None (name_at names a) (name_at names b) (cell_of cells a b)

-- ---- a square that follows an edit

abbrev pub IsMarked : List Bool → ℕ → Type 0
IsMarked marks at = get_or marks at false ≡ true

-- before the links of touched nodes are looked at: those of the others are right, and new nodes are touched
pub record IsBefore (linked : Linked) (names : List (List ℕ)) (touched : List Bool) (cells : List (List ℕ)) : Type 0 where
  pub closed : IsClosed cells
  pub long : length cells ≤ length names
  pub fresh : (a : ℕ) → length cells ≤ a → a < length names → IsMarked touched a
  pub sound : (a b : ℕ) → (¬ IsMarked touched a) → IsNear cells a b → (a ≡ b) ⊎ IsNodeLink linked names a b
  pub whole : (a b : ℕ) → a < length cells → b < length names → (¬ IsMarked touched a) → IsNodeLink linked names a b → IsNear cells a b

-- each link of the square is one of the graph, and those of the nodes that are not touched are all there
pub record IsBegun (linked : Linked) (names : List (List ℕ)) (touched : List Bool) (cells : List (List ℕ)) : Type 0 where
  pub closed : IsClosed cells
  pub long : length cells ≤ length names
  pub fresh : (a : ℕ) → length cells ≤ a → a < length names → IsMarked touched a
  pub sound : (a b : ℕ) → IsNear cells a b → (a ≡ b) ⊎ IsNodeLink linked names a b
  pub whole : (a b : ℕ) → a < length cells → b < length names → (¬ IsMarked touched a) → IsNodeLink linked names a b → IsNear cells a b

-- the same where each node stands, and those of the touched nodes before `upto` are there as well
pub record IsLinking (linked : Linked) (names : List (List ℕ)) (touched : List Bool) (upto : ℕ) (cells : List (List ℕ)) : Type 0 where
  pub closed : IsClosed cells
  pub long : length cells ≡ length names
  pub sound : (a b : ℕ) → IsNear cells a b → (a ≡ b) ⊎ IsNodeLink linked names a b
  pub whole : (a b : ℕ) → a < length names → b < length names → (¬ IsMarked touched a) ⊎ (a < upto) → IsNodeLink linked names a b → IsNear cells a b
