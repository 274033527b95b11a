-- The tokens of a text as the parser sees them.
use Rattle.std.specs.Prelude.{ℕ, ◌+◌, ◌==◌, ◌<◌, IsTrue, List, length, Option, Some, None}
use Rattle.std.specs.Char.{is_ascii_digit}
use Rattle.std.specs.List.{list_all, slice_split}
use Rattle.matcher_read.specs.Tokens.{Placed, placed, Token, name, called, eval, number, text, unclosed, operator, exclamation, opening, closing, comma}
use Rattle.matcher_read.specs.declared.token.Token as code
use Rattle.matcher_read.specs.declared.token.Token.TheVariants as seen
use Rattle.matcher_read.specs.declared.token.PlacedToken.{PlacedToken}

-- the tokens that are left, the place of a byte that begins none, and the number of bytes of the whole text
pub record TokenList : Type 0 where
  pub tokens : List Placed
  pub stray : Option ℕ
  pub size : ℕ

-- the pieces of a name between its dots
abbrev pub pieces : List ℕ → List (List ℕ)
pieces bytes = slice_split (λ byte. byte == 46) bytes

-- what a token says
abbrev pub token_of : code.Token → Token
token_of (seen.Name bytes) = name (pieces bytes.now)
token_of (seen.Called bytes) = called (pieces bytes.now)
token_of (seen.Eval at_opening column) = eval at_opening column.now
token_of (seen.Number digits) = number digits.now
token_of (seen.Text bytes) = text bytes.now
token_of (seen.Unclosed bytes) = unclosed bytes.now
token_of (seen.Operator o) = operator o
token_of seen.Exclamation = exclamation
token_of seen.Opening = opening
token_of seen.Closing = closing
token_of seen.Comma = comma

-- a number is digits, one at least
abbrev pub HasDigits : Token → Type 0
HasDigits (number digits) = (0 < length digits) × IsTrue (list_all is_ascii_digit digits)
HasDigits _ = Unit {0}

-- a token with its place
abbrev pub placed_of : PlacedToken → Placed
placed_of token = placed token.at (token_of token.token)

-- the place of the byte that begins no token, or else the place behind the text
abbrev pub end_of : Option ℕ → ℕ → ℕ
end_of (Some place) size = place
end_of None size = size + 1
