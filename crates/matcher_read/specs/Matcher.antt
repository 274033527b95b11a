-- The text of a matcher (Casbin, syntax for models: matchers).
use Rattle.std.specs.Prelude.{◌≡◌, ℕ, ◌≤◌, ◌&&◌, ℤ, pos, negsuc, Bool, true, false, nat_lt, List, length, None}
use Rattle.matcher_read.specs.Calls.{takes}
use Rattle.matcher_read.specs.Expression.{Expression, text, whole, truth, request, policy, evaluated, negation, opposite, binary, among, call, Expressions, no_more, one_more, count, nodes}
use Rattle.matcher_read.specs.Grammar.{Derives, or_rule}
use Rattle.matcher_read.specs.Tokens.{Placed, IsCut, as_read, Token, unclosed}
use Rattle.std.specs.List.{list_all}

-- the greatest number of bytes, of levels and of nodes
abbrev pub most_bytes : ℕ
most_bytes = 8192

abbrev pub most_levels : ℕ
most_levels = 64

abbrev pub most_nodes : ℕ
most_nodes = 1024

-- the first number that is too wide for 64 bits
abbrev pub first_wide : ℕ
first_wide = 9223372036854775808

-- a number that fits 64 bits
abbrev pub is_number : ℤ → Bool
is_number (pos n) = nat_lt n first_wide
is_number (negsuc n) = false

-- numbers fit, and what is called is there and has as many arguments as it takes
abbrev mutual
  pub is_sound : Expression → Bool
  is_sound (text at bytes) = true
  is_sound (whole at n) = is_number n
  is_sound (truth at b) = true
  is_sound (request at column path) = true
  is_sound (policy at column) = true
  is_sound (evaluated at column) = true
  is_sound (negation at e) = is_sound e
  is_sound (opposite at e) = is_sound e
  is_sound (binary at op e f) = is_sound e && is_sound f
  is_sound (among at e es) = is_sound e && are_sound es
  is_sound (call at callee es) = takes callee (count es) && are_sound es

  pub are_sound : Expressions → Bool
  are_sound no_more = true
  are_sound (one_more e es) = is_sound e && are_sound es

-- the token is no text that is never closed
abbrev pub is_closed : Token → Bool
is_closed (unclosed bytes) = false
is_closed _ = true

-- the text is cut into these tokens, without a byte that begins none
abbrev pub HasTokens : List ℕ → List Placed → Type 0
HasTokens bytes tokens = IsCut 1 bytes tokens None

-- the text says this expression
pub record IsMatcher (bytes : List ℕ) (e : Expression) : Type 0 where
  pub few_bytes : length bytes ≤ most_bytes
  pub tokens : List Placed
  pub cut : HasTokens bytes tokens
  pub closed : list_all (λ (t : Placed). is_closed t.token) tokens ≡ true
  pub derived : Derives most_levels or_rule (as_read tokens) e
  pub sound : is_sound e ≡ true
  pub few_nodes : nodes e ≤ most_nodes
