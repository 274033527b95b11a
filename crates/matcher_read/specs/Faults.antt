-- The first fault of a text that is no matcher, by the tokens that are read from the left.
use Rattle.std.specs.Prelude.{◌≡◌, ℕ, ◌+◌, ◌<◌, ◌≤◌, false, List, [], ◌∷◌, ◌++◌, length, Option, Some, None}
use Rattle.std.specs.Str.Parse.{digits_value}
use Rattle.matcher_read.specs.Calls.{callee_of, is_known, takes}
use Rattle.matcher_read.specs.Expression.{Expression, Expressions, count, nodes}
use Rattle.matcher_read.specs.Grammar.{Derives, DerivesList, or_rule}
use Rattle.matcher_read.specs.Matcher.{most_bytes, most_levels, most_nodes, first_wide}
use Rattle.matcher_read.specs.Tokens.{Placed, placed, IsCut, as_read}
use Rattle.matcher_read.specs.Tokens as token
use Rattle.matcher_read.specs.declared.tree.Operator.TheVariants as op
use Rattle.matcher_read.specs.declared.fault.MatcherFault.{MatcherFault}
use Rattle.matcher_read.specs.declared.fault.MatcherFault.TheVariants.{TooLong, Unexpected, OpenText, NumberTooWide, UnknownFunction, WrongArguments, TooDeep, TooManyNodes}

-- some further tokens make the tokens a matcher, with so many levels at most
abbrev pub IsOpenWithin : ℕ → List Placed → Type 0
IsOpenWithin levels tokens = (further : List Placed) × (e : Expression) × Derives levels or_rule (tokens ++ further) e

-- some further tokens make the tokens a matcher, with however many levels
abbrev pub IsOpen : List Placed → Type 0
IsOpen tokens = (levels : ℕ) × IsOpenWithin levels tokens

-- the tokens are a matcher, with however many levels
abbrev pub IsWhole : List Placed → Type 0
IsWhole tokens = (levels : ℕ) × (e : Expression) × Derives levels or_rule tokens e

-- tokens that may open a level, and where: `!`, `-` and `(`, also that of `eval ( p.column )`
pub data OpensLevel : Placed → ℕ → Type 0 where
  exclamation_opens : {at : ℕ} → OpensLevel (placed at token.exclamation) at
  minus_opens : {at : ℕ} → OpensLevel (placed at (token.operator op.Minus)) at
  parenthesis_opens : {at : ℕ} → OpensLevel (placed at token.opening) at
  eval_opens : {at at_opening : ℕ} {column : List ℕ} → OpensLevel (placed at (token.eval at_opening column)) at_opening

-- the fault is met at a token behind these; all but the first are met where the token may stand there
pub data IsMet (before : List Placed) : Placed → MatcherFault → Type 0 where
  -- no matcher goes on so
  unexpected : {t : Placed} → IsOpen before → ¬ (IsOpen (before ++ t ∷ [])) → IsMet before t (Unexpected t.at)
  -- a quote that is never closed
  open_text : {at : ℕ} {bytes : List ℕ} → IsOpen (before ++ placed at (token.unclosed bytes) ∷ []) → IsMet before (placed at (token.unclosed bytes)) (OpenText at)
  -- a number that does not fit 64 bits
  number_too_wide : {at : ℕ} {digits : List ℕ} → IsOpen (before ++ placed at (token.number digits) ∷ []) → first_wide ≤ digits_value 10 digits
      → IsMet before (placed at (token.number digits)) (NumberTooWide at)
  -- what is called is no function and no role relation
  unknown_function : {at : ℕ} {parts : List (List ℕ)} → IsOpen (before ++ placed at (token.called parts) ∷ []) → is_known (callee_of parts) ≡ false
      → IsMet before (placed at (token.called parts)) (UnknownFunction at)
  -- the parenthesis that closes the arguments of a call, when it has another number of them than it takes, and of `eval` with any list that is not one column of the policy; the fault stands at the call
  wrong_arguments : (at_opening at_closing : ℕ) {at : ℕ} (parts : List (List ℕ)) (front inside : List Placed) {n : ℕ} {es : Expressions} → IsOpen (before ++ placed at_closing token.closing ∷ [])
      → before ≡ front ++ placed at (token.called parts) ∷ placed at_opening token.opening ∷ inside → DerivesList n inside es → takes (callee_of parts) (count es) ≡ false
      → IsMet before (placed at_closing token.closing) (WrongArguments at)
  -- a token that opens one level too many
  too_deep : {t : Placed} {at : ℕ} → OpensLevel t at → IsOpen (before ++ t ∷ []) → ¬ (IsOpenWithin most_levels (before ++ t ∷ [])) → IsMet before t (TooDeep at)

-- no fault is met at any of the tokens
abbrev pub AreFine : List Placed → Type 0
AreFine tokens = (before behind : List Placed) (t : Placed) (fault : MatcherFault) → tokens ≡ before ++ t ∷ behind → ¬ (IsMet before t fault)

-- the first fault of tokens up to a byte that begins none, or up to the end, in a text of so many bytes
pub data IsFirst (size : ℕ) : List Placed → Option ℕ → MatcherFault → Type 0 where
  at_token : (before behind : List Placed) {tokens : List Placed} {t : Placed} {stray : Option ℕ} {fault : MatcherFault} → tokens ≡ before ++ t ∷ behind → AreFine before → IsMet before t fault → IsFirst size tokens stray fault
  at_stray : {tokens : List Placed} {place : ℕ} → AreFine tokens → IsFirst size tokens (Some place) (Unexpected place)
  at_end : {tokens : List Placed} → AreFine tokens → ¬ (IsWhole tokens) → IsFirst size tokens None (Unexpected (size + 1))
  too_many_nodes : {tokens : List Placed} {e : Expression} → AreFine tokens → Derives most_levels or_rule tokens e → most_nodes < nodes e → IsFirst size tokens None TooManyNodes

-- the first fault of a text that is no matcher
pub data IsFault (bytes : List ℕ) : MatcherFault → Type 0 where
  too_long : most_bytes < length bytes → IsFault bytes TooLong
  within : {tokens : List Placed} {stray : Option ℕ} {fault : MatcherFault} → length bytes ≤ most_bytes → IsCut 1 bytes tokens stray
      → IsFirst (length bytes) (as_read tokens) stray fault → IsFault bytes fault
