-- The tokens of a matcher: the longest that fit, one behind the other, with blanks between them (Casbin, syntax for models: matchers).
use Rattle.std.specs.Prelude.{◌≡◌, ℕ, ◌+◌, ◌<◌, ◌≤◌, ◌||◌, ◌&&◌, ◌⊎◌, Bool, true, false, cond, if◌then◌else◌, List, [], ◌∷◌, ◌++◌, length, codes, All, IsTrue, Option, Some, None}
use Rattle.std.specs.Char.{is_ascii_digit}
use Rattle.std.specs.List.{join_with_byte, list_all}
use Rattle.std.specs.Str.{bytes_eq}
use Rattle.text_parts.specs.Blanks.{AreBlanks, is_blank}
use Rattle.text_parts.specs.Lines.{has_byte}
use Rattle.text_parts.specs.Names.{is_identifier}
use Rattle.matcher_read.specs.declared.tree.Operator.{Operator}
use Rattle.matcher_read.specs.declared.tree.Operator.TheVariants as op

-- a name is seen as its identifiers; one before `(` is called; `eval ( p.column )` is seen as one, with the place of its `(`
pub data Token : Type 0 where
  name : List (List ℕ) → Token
  called : List (List ℕ) → Token
  eval : ℕ → List ℕ → Token
  number : List ℕ → Token
  text : List ℕ → Token
  unclosed : List ℕ → Token
  operator : Operator → Token
  exclamation : Token
  opening : Token
  closing : Token
  comma : Token

-- a token and the place of its first byte, counted from 1
pub record Placed : Type 0 where
  pub at : ℕ
  pub token : Token

-- this token at this place
abbrev pub placed : ℕ → Token → Placed
placed at token = record { at = at; token = token }

-- how an operator is written
abbrev pub sign : Operator → List ℕ
sign op.Or = codes "||"
sign op.And = codes "&&"
sign op.Equal = codes "=="
sign op.NotEqual = codes "!="
sign op.Less = codes "<"
sign op.AtMost = codes "<="
sign op.Greater = codes ">"
sign op.AtLeast = codes ">="
sign op.Plus = codes "+"
sign op.Minus = codes "-"
sign op.Times = codes "*"
sign op.Over = codes "/"
sign op.Remainder = codes "%"

-- `"` or `'`
abbrev pub IsQuote : ℕ → Type 0
IsQuote byte = (byte ≡ 34) ⊎ (byte ≡ 39)

-- the bytes spell the token; a text stands between two equal quotes, and has no escapes; one that is never closed has the first alone
pub data IsSpelling : Token → List ℕ → Type 0 where
  as_name : {parts : List (List ℕ)} → 0 < length parts → All (λ (part : List ℕ). IsTrue (is_identifier part)) parts → IsSpelling (name parts) (join_with_byte 46 parts)
  as_number : {digits : List ℕ} → 0 < length digits → IsTrue (list_all is_ascii_digit digits) → IsSpelling (number digits) digits
  as_text : {quote : ℕ} {bytes : List ℕ} → IsQuote quote → has_byte quote bytes ≡ false → IsSpelling (text bytes) (quote ∷ bytes ++ quote ∷ [])
  as_unclosed : {quote : ℕ} {bytes : List ℕ} → IsQuote quote → has_byte quote bytes ≡ false → IsSpelling (unclosed bytes) (quote ∷ bytes)
  as_operator : {o : Operator} → IsSpelling (operator o) (sign o)
  as_exclamation : IsSpelling exclamation (codes "!")
  as_opening : IsSpelling opening (codes "(")
  as_closing : IsSpelling closing (codes ")")
  as_comma : IsSpelling comma (codes ",")

-- the bytes begin with this front
abbrev pub IsFront : List ℕ → List ℕ → Type 0
IsFront front bytes = (behind : List ℕ) × (bytes ≡ front ++ behind)

-- at the front of the bytes stands the token so spelled, and no longer front spells a token
pub record IsLongest (token : Token) (spelling bytes : List ℕ) : Type 0 where
  pub spelled : IsSpelling token spelling
  pub front : IsFront spelling bytes
  pub longest : (other : Token) (longer : List ℕ) → IsSpelling other longer → IsFront longer bytes → length longer ≤ length spelling

-- the bytes begin with one that is no blank and begins no token
pub record BeginsNoToken (bytes : List ℕ) : Type 0 where
  pub some : (byte : ℕ) × (behind : List ℕ) × (bytes ≡ byte ∷ behind) × (is_blank byte ≡ false)
  pub none : (token : Token) (spelling : List ℕ) → IsSpelling token spelling → ¬ (IsFront spelling bytes)

-- the text, whose first byte stands at a place, is cut into these tokens, up to its end, or to the place of a byte that begins no token
pub data IsCut : ℕ → List ℕ → List Placed → Option ℕ → Type 0 where
  ended : {place : ℕ} {blanks : List ℕ} → AreBlanks blanks → IsCut place blanks [] None
  strayed : {place : ℕ} (blanks bytes : List ℕ) {text : List ℕ} → AreBlanks blanks → BeginsNoToken bytes → text ≡ blanks ++ bytes → IsCut place text [] (Some (place + length blanks))
  one_token : {place : ℕ} (blanks spelling behind : List ℕ) {text : List ℕ} {token : Token} {tokens : List Placed} {stray : Option ℕ} → AreBlanks blanks
      → IsLongest token spelling (spelling ++ behind) → IsCut (place + length blanks + length spelling) behind tokens stray
      → text ≡ blanks ++ (spelling ++ behind) → IsCut place text (placed (place + length blanks) token ∷ tokens) stray

-- `true`, `false` and `in` are words, also before `(`
abbrev pub is_reserved : List (List ℕ) → Bool
is_reserved [] = false
is_reserved (part ∷ []) = bytes_eq part (codes "true") || bytes_eq part (codes "false") || bytes_eq part (codes "in")
is_reserved (part ∷ next ∷ parts) = false

-- a name by the token behind it: before `(` it is called, unless it is a word
abbrev pub name_before : List (List ℕ) → Token → Token
name_before parts opening = if is_reserved parts then name parts else called parts
name_before parts _ = name parts

-- a token by the tokens behind it
abbrev pub token_before : Token → List Placed → Token
token_before (name parts) (next ∷ behind) = name_before parts next.token
token_before (name parts) [] = name parts
token_before token _ = token

-- the tokens, each name that is called as such
abbrev pub with_calls : List Placed → List Placed
with_calls [] = []
with_calls (token ∷ behind) = placed token.at (token_before token.token behind) ∷ with_calls behind

-- the name `eval`
abbrev pub is_eval_name : List (List ℕ) → Bool
is_eval_name [] = false
is_eval_name (part ∷ []) = bytes_eq part (codes "eval")
is_eval_name (part ∷ next ∷ parts) = false

-- a call of `eval`
abbrev pub is_eval : Token → Bool
is_eval (called parts) = is_eval_name parts
is_eval _ = false

abbrev pub is_opening : Token → Bool
is_opening opening = true
is_opening _ = false

abbrev pub is_closing : Token → Bool
is_closing closing = true
is_closing _ = false

-- the column of `p.column`
abbrev pub column_of : Token → Option (List ℕ)
column_of (name (part ∷ column ∷ [])) = cond (bytes_eq part (codes "p")) (Some column) None
column_of _ = None

-- the column of `eval ( p.column )`, where the four tokens are that
abbrev pub eval_column : Token → Token → Token → Token → Option (List ℕ)
eval_column first second third fourth = cond (is_eval first && (is_opening second && is_closing fourth)) (column_of third) None

-- the tokens, each `eval ( p.column )` as one, and every other as it stands
abbrev pub with_evals : List Placed → List Placed
with_evals [] = []
with_evals (first ∷ second ∷ third ∷ fourth ∷ behind) = elim (eval_column first.token second.token third.token fourth.token) [
  | Some column ↦ placed first.at (eval second.at column) ∷ with_evals behind
  | None ↦ first ∷ with_evals (second ∷ third ∷ fourth ∷ behind)
]
with_evals (token ∷ behind) = token ∷ with_evals behind

-- the tokens as the grammar reads them
abbrev pub as_read : List Placed → List Placed
as_read tokens = with_evals (with_calls tokens)
