-- The cut of a text, computed from its front.
use Rattle.std.specs.Prelude.{◌≡◌, ℕ, zero, suc, ◌+◌, ◌-◌, ◌==◌, ◌<◌, ◌≤◌, ◌||◌, ◌&&◌, Bool, true, false, if◌then◌else◌, List, [], ◌∷◌, ◌++◌, length, take, drop, Option, Some, None, option_map, position}
use Rattle.std.specs.Char.{is_ascii_digit}
use Rattle.std.specs.List.{prefix_len}
use Rattle.std.specs.Option.{option_to_list}
use Rattle.text_parts.specs.Blanks.{is_blank}
use Rattle.text_parts.specs.Names.{is_letter, is_word}
use Rattle.matcher_read.specs.Tokens.{Token, Placed, placed, with_calls, is_reserved, name, called, number, text, unclosed, operator, exclamation, opening, closing, comma}
use Rattle.matcher_read.specs.Matcher.{most_bytes}
use Rattle.matcher_read.specs.Helps.TokenLists.{TokenList, HasDigits, pieces}
use Rattle.matcher_read.specs.declared.tree.Operator.{Operator}
use Rattle.matcher_read.specs.declared.tree.Operator.TheVariants as op

-- a token at a front, and how many bytes spell it
pub record Found : Type 0 where
  pub token : Token
  pub size : ℕ

abbrev pub sized_token : Token → ℕ → Found
sized_token token size = record { token = token; size = size }

-- the bytes begin with a letter or `_`
abbrev pub begins_name : List ℕ → Bool
begins_name [] = false
begins_name (byte ∷ bytes) = is_letter byte

-- a byte goes on with a name, by the bytes behind it: a dot does before another identifier
abbrev pub goes_on : ℕ → List ℕ → Bool
goes_on byte bytes = is_word byte || (byte == 46 && begins_name bytes)

-- how many bytes go on with a name
unfoldable pub name_size : List ℕ → ℕ
name_size [] = 0
name_size (byte ∷ bytes) = if goes_on byte bytes then suc (name_size bytes) else 0

-- `"` or `'`
abbrev pub is_quote : ℕ → Bool
is_quote byte = byte == 34 || byte == 39

-- the text behind a quote, by the place of the next equal quote
abbrev pub quoted : List ℕ → Option ℕ → Found
quoted bytes (Some at) = sized_token (text (take at bytes)) (at + 2)
quoted bytes None = sized_token (unclosed bytes) (length bytes + 1)

-- the sign of a byte before `=`
abbrev pub sign_with_equal : ℕ → Option Operator
sign_with_equal byte =
    if byte == 61 then Some op.Equal else (if byte == 33 then Some op.NotEqual else (if byte == 60 then Some op.AtMost else (if byte == 62 then Some op.AtLeast else None)))

-- the text at the front, behind its quote
abbrev pub text_at : List ℕ → Found
text_at [] = sized_token (unclosed []) 0
text_at (quote ∷ bytes) = quoted bytes (position (λ b. b == quote) bytes)

-- the sign of two bytes
abbrev pub sign_of_two : ℕ → ℕ → Option Operator
sign_of_two first second =
    if second == 61 then sign_with_equal first else (if first == 124 && second == 124 then Some op.Or else (if first == 38 && second == 38 then Some op.And else None))

-- the operator of one byte
abbrev pub operator_of : ℕ → Option Operator
operator_of byte =
    if byte == 60 then Some op.Less else (if byte == 62 then Some op.Greater else (if byte == 43 then Some op.Plus else (if byte == 45 then Some op.Minus
    else (if byte == 42 then Some op.Times else (if byte == 47 then Some op.Over else (if byte == 37 then Some op.Remainder else None))))))

-- the mark of one byte
abbrev pub mark_of : ℕ → Option Token
mark_of byte =
    if byte == 33 then Some exclamation else (if byte == 40 then Some opening else (if byte == 41 then Some closing else (if byte == 44 then Some comma else None)))

abbrev pub or_mark : ℕ → Option Operator → Option Token
or_mark byte (Some o) = Some (operator o)
or_mark byte None = mark_of byte

-- the sign of one byte
abbrev pub sign_of_one : ℕ → Option Token
sign_of_one byte = or_mark byte (operator_of byte)

-- the sign of two bytes where there is one, or else the sign of one byte
abbrev pub or_one : ℕ → Option Operator → Option Found
or_one byte (Some o) = Some (sized_token (operator o) 2)
or_one byte None = option_map (λ token. sized_token token 1) (sign_of_one byte)

-- the sign at the front
abbrev pub sign_at : List ℕ → Option Found
sign_at [] = None
sign_at (byte ∷ []) = or_one byte None
sign_at (byte ∷ next ∷ bytes) = or_one byte (sign_of_two byte next)

-- the name at the front
abbrev pub name_at : List ℕ → Found
name_at bytes = sized_token (name (pieces (take (name_size bytes) bytes))) (name_size bytes)

-- the number at the front
abbrev pub number_at : List ℕ → Found
number_at bytes = sized_token (number (take (prefix_len is_ascii_digit bytes) bytes)) (prefix_len is_ascii_digit bytes)

-- the longest token at the front
unfoldable pub token_at : List ℕ → Option Found
token_at [] = None
token_at (byte ∷ bytes) =
    if is_letter byte then Some (name_at (byte ∷ bytes)) else (if is_ascii_digit byte then Some (number_at (byte ∷ bytes)) else (if is_quote byte then Some (text_at (byte ∷ bytes)) else sign_at (byte ∷ bytes)))

-- the tokens, and the place of a byte that begins none
pub record Cut : Type 0 where
  pub tokens : List Placed
  pub stray : Option ℕ

-- the cut from a token on, by the cut of what stands behind it
abbrev pub onto_cut : Placed → Cut → Cut
onto_cut token rest = record { tokens = token ∷ rest.tokens; stray = rest.stray }

-- the cut from a byte on that is no blank
abbrev pub cut_at_token : (ℕ → List ℕ → Cut) → ℕ → List ℕ → Option Found → Cut
cut_at_token next place bytes None = record { tokens = []; stray = Some place }
cut_at_token next place bytes (Some front) = onto_cut (placed place front.token) (next (place + front.size) (drop front.size bytes))

-- the cut of bytes that begin with no blank
abbrev pub cut_full : (ℕ → List ℕ → Cut) → ℕ → List ℕ → Cut
cut_full next place [] = record { tokens = []; stray = None }
cut_full next place (byte ∷ bytes) = cut_at_token next place (byte ∷ bytes) (token_at (byte ∷ bytes))

-- how many blanks stand at the front
abbrev pub blanks : List ℕ → ℕ
blanks bytes = prefix_len is_blank bytes

-- the cut of bytes, with so many tokens at most
unfoldable pub cut_within : ℕ → ℕ → List ℕ → Cut
cut_within zero place bytes = record { tokens = []; stray = None }
cut_within (suc most) place bytes = cut_full (cut_within most) (place + blanks bytes) (drop (blanks bytes) bytes)

-- the cut of bytes whose first stands at a place
unfoldable pub cut : ℕ → List ℕ → Cut
cut place bytes = cut_within (length bytes) place bytes

-- what is left: a token that is read, if there is one, and the tokens of the bytes behind it, whose first stands at a place
abbrev pub listed : Option Placed → ℕ → List ℕ → TokenList
listed current place bytes = record {
  tokens = option_to_list current ++ with_calls ((cut place bytes).tokens);
  stray = (cut place bytes).stray;
  size = place + length bytes - 1;
}

-- the bytes begin with no blank and no token
pub record IsAtEnd (bytes : List ℕ) : Type 0 where
  pub no_blank : blanks bytes ≡ 0
  pub no_token : token_at bytes ≡ None

-- a token was read, or else the bytes have none
abbrev pub HasCurrent : Option Placed → List ℕ → Type 0
HasCurrent (Some current) bytes = HasDigits current.token
HasCurrent None bytes = IsAtEnd bytes

-- what holds of what is left: places are counted from 1, and few
pub record IsLeft (current : Option Placed) (place : ℕ) (bytes : List ℕ) : Type 0 where
  pub counted : 0 < place
  pub few : place + length bytes ≤ most_bytes + 1
  pub has_current : HasCurrent current bytes

-- the bytes begin with `(`
abbrev pub begins_opening : List ℕ → Bool
begins_opening [] = false
begins_opening (byte ∷ bytes) = byte == 40

-- a name by whether `(` stands behind it
abbrev pub name_by : List (List ℕ) → Bool → Token
name_by parts true = if is_reserved parts then name parts else called parts
name_by parts false = name parts

-- a token by whether `(` stands behind it
abbrev pub marked : Token → Bool → Token
marked (name parts) opens = name_by parts opens
marked token opens = token
