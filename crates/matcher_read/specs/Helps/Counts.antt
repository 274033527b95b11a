-- How many nodes tokens make, and where they end.
use Rattle.std.specs.Prelude.{ℕ, ◌+◌, ◌≤◌, Bool, true, false, cond, List, [], ◌∷◌, Option, Some, None}
use Rattle.matcher_read.specs.Tokens.{Placed, Token, opening, closing, comma}

-- each token but a parenthesis or a comma is a node
abbrev pub is_node : Token → Bool
is_node opening = false
is_node closing = false
is_node comma = false
is_node _ = true

-- how many nodes the tokens make
abbrev pub node_count : List Placed → ℕ
node_count [] = 0
node_count (t ∷ ts) = cond (is_node t.token) 1 0 + node_count ts

-- nothing is left, and no byte begins no token
abbrev pub is_ended : List Placed → Option ℕ → Bool
is_ended [] None = true
is_ended [] (Some place) = false
is_ended (t ∷ ts) stray = false

-- a byte that begins no token stands in the text
abbrev pub IsWithin : Option ℕ → ℕ → Type 0
IsWithin None size = Unit {0}
IsWithin (Some place) size = place ≤ size
