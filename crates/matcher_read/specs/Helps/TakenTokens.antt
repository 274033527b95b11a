-- Which tokens the parser takes.
use Rattle.std.specs.Prelude.{◌≡◌, ℕ, suc, ◌<◌, ◌⊎◌, ◌==◌, pos, Bool, true, false, nat_lt, cond, List, [], ◌∷◌, codes, Option, Result, Ok, Err, MatchOption, MatchResult, ok_or}
use Rattle.std.specs.Str.Parse.{digits_value}
use Rattle.matcher_read.specs.Calls.{callee_of, is_known}
use Rattle.matcher_read.specs.Expression.{Expression, text, whole, evaluated, negation, opposite, Callee, function, relation, unknown}
use Rattle.matcher_read.specs.Grammar.{Rule, or_rule, and_rule, cmp_rule, sum_rule, term_rule, unary_rule, prim_rule}
use Rattle.matcher_read.specs.Helps.Machine.{Rank, term_rank, sum_rank, comparing_rank, and_rank, or_rank, rank, is_in, name_operand}
use Rattle.matcher_read.specs.Matcher.{first_wide}
use Rattle.matcher_read.specs.Helps.TokenLists.{TokenList, end_of}
use Rattle.matcher_read.specs.Tokens.{Placed, Token, placed}
pub use Rattle.matcher_read.specs.Tokens.{is_opening, is_closing}
use Rattle.matcher_read.specs.Tokens as token
use Rattle.matcher_read.specs.declared.calls.Called.{Called}
use Rattle.matcher_read.specs.declared.calls.Called.TheVariants as kind
use Rattle.matcher_read.specs.declared.fault.MatcherFault.{MatcherFault}
use Rattle.matcher_read.specs.declared.fault.MatcherFault.TheVariants.{Unexpected, OpenText, NumberTooWide, TooDeep}
use Rattle.matcher_read.specs.declared.tree.Operator.{Operator}
use Rattle.matcher_read.specs.declared.tree.Operator.TheVariants as op
use Rattle.matcher_read.specs.declared.words.Chain.{Chain}
use Rattle.matcher_read.specs.declared.words.Chain.TheVariants as chain
use Rattle.matcher_read.specs.declared.words.Comparing.{Comparing}
use Rattle.matcher_read.specs.declared.words.Comparing.TheVariants as comparing
use Rattle.matcher_read.specs.declared.words.Opener.{Opener}
use Rattle.matcher_read.specs.declared.words.Opener.TheVariants as opener
use Rattle.matcher_read.specs.declared.words.Sign.{Sign}
use Rattle.matcher_read.specs.declared.words.Sign.TheVariants as sign

-- the operators of a rule stand between its parts
abbrev pub joins_by : Rule → Rank → Bool
joins_by or_rule or_rank = true
joins_by and_rule and_rank = true
joins_by cmp_rule comparing_rank = true
joins_by sum_rule sum_rank = true
joins_by term_rule term_rank = true
joins_by _ _ = false

-- an operator may stand behind what a rule derives
abbrev pub follows : Rule → Rank → Bool
follows or_rule _ = false
follows and_rule or_rank = true
follows and_rule _ = false
follows cmp_rule or_rank = true
follows cmp_rule and_rank = true
follows cmp_rule _ = false
follows sum_rule term_rank = false
follows sum_rule sum_rank = false
follows sum_rule _ = true
follows term_rule term_rank = false
follows term_rule _ = true
follows unary_rule _ = true
follows prim_rule _ = true

-- the word `in` may stand behind what a rule derives
abbrev pub may_be_looked_up : Rule → Bool
may_be_looked_up or_rule = false
may_be_looked_up and_rule = false
may_be_looked_up cmp_rule = false
may_be_looked_up _ = true

-- a token may stand behind what a rule derives
abbrev pub may_follow : Rule → Token → Bool
may_follow rule (token.operator o) = follows rule (rank o)
may_follow rule (token.name parts) = cond (is_in parts) (may_be_looked_up rule) false
may_follow rule token.closing = true
may_follow rule token.comma = true
may_follow rule _ = false

-- a token stands between the parts of a rule
abbrev pub goes_on_by : Rule → Token → Bool
goes_on_by rule (token.operator o) = joins_by rule (rank o)
goes_on_by cmp_rule (token.name parts) = is_in parts
goes_on_by rule _ = false

-- the first of the tokens, if there is one, passes a test
abbrev pub head_is : (Token → Bool) → List Placed → Bool
head_is test [] = false
head_is test (t ∷ ts) = test t.token

abbrev pub is_comma : Token → Bool
is_comma token.comma = true
is_comma _ = false

abbrev pub is_called : Token → Bool
is_called (token.called parts) = true
is_called _ = false

abbrev pub is_minus : Operator → Bool
is_minus op.Minus = true
is_minus _ = false

-- `!`, or `-` before an operand
abbrev pub is_sign : Token → Bool
is_sign token.exclamation = true
is_sign (token.operator o) = is_minus o
is_sign _ = false

abbrev pub place_of_first : List Placed → ℕ → ℕ
place_of_first [] end = end
place_of_first (t ∷ ts) end = t.at

-- the place of what stands next: that of a token, or where the tokens end
abbrev pub place_of_next : TokenList → ℕ
place_of_next list = place_of_first list.tokens (end_of list.stray list.size)

-- the first token was taken, and all else stays
pub record Takes (t : Placed) (before after : TokenList) : Type 0 where
  pub tokens : before.tokens ≡ t ∷ after.tokens
  pub stray : after.stray ≡ before.stray
  pub size : after.size ≡ before.size

-- no token is taken, and the next passes no such test
pub record Stays (test : Token → Bool) (before after : TokenList) : Type 0 where
  pub same : after ≡ before
  pub head : head_is test before.tokens ≡ false

-- the rule of a chain, and of its parts
abbrev pub rule_of : Chain → Rule
rule_of chain.Or = or_rule
rule_of chain.And = and_rule
rule_of chain.Sum = sum_rule
rule_of chain.Term = term_rule

abbrev pub part_of : Chain → Rule
part_of chain.Or = and_rule
part_of chain.And = cmp_rule
part_of chain.Sum = term_rule
part_of chain.Term = unary_rule

-- an operator between parts of a rule is taken, where one stands next
abbrev pub TakesJoining : Rule → TokenList → TokenList → Option (ℕ × Operator) → Type 0
TakesJoining rule before after result =
    MatchOption result (Stays (goes_on_by rule) before after) (λ found. Takes (placed found.0 (token.operator found.1)) before after × (joins_by rule (rank found.1) ≡ true))

-- what follows a sum is taken
abbrev pub TakesComparing : Comparing → TokenList → TokenList → Type 0
TakesComparing (comparing.By at o) before after = Takes (placed at (token.operator o)) before after × (joins_by cmp_rule (rank o) ≡ true)
TakesComparing (comparing.In at) before after = Takes (placed at (token.name (codes "in" ∷ []))) before after
TakesComparing comparing.Nothing before after = Stays (goes_on_by cmp_rule) before after

-- the token of a sign, and the expression behind it
abbrev pub sign_token : Sign → Placed
sign_token (sign.Not at) = placed at token.exclamation
sign_token (sign.Negate at) = placed at (token.operator op.Minus)

abbrev pub signed_by : Sign → Expression → Expression
signed_by (sign.Not at) e = negation at e
signed_by (sign.Negate at) e = opposite at e

-- a token stands next that passes a test, and the fault that is told is at it
pub record ToldAt (test : Token → Bool) (told : ℕ → MatcherFault) (before : TokenList) (fault : MatcherFault) : Type 0 where
  pub first : Placed
  pub others : List Placed
  pub tokens : before.tokens ≡ first ∷ others
  pub passes : test first.token ≡ true
  pub told_there : fault ≡ told first.at

-- what stands next does not belong there
pub record IsUnexpected (test : Token → Bool) (before : TokenList) (fault : MatcherFault) : Type 0 where
  pub head : head_is test before.tokens ≡ false
  pub told_there : fault ≡ Unexpected (place_of_next before)

-- a sign is taken, where one stands next
abbrev pub TakesSign : ℕ → TokenList → TokenList → Result (Option Sign) MatcherFault → Type 0
TakesSign levels before after result = MatchResult result
    (λ found. MatchOption found (Stays is_sign before after) (λ sign. Takes (sign_token sign) before after × (0 < levels)))
    (λ fault. ToldAt is_sign TooDeep before fault × (levels ≡ 0))

-- what is called
abbrev pub callee : Called → Callee
callee (kind.Function called) = function called
callee (kind.Relation number) = relation number
callee kind.Eval = unknown (codes "eval" ∷ [])

-- a called name is taken, or what stands next is seen
abbrev pub TakesOpener : TokenList → TokenList → Opener → Type 0
TakesOpener before after opener.Parenthesis = (after ≡ before) × (head_is is_opening before.tokens ≡ true)
TakesOpener before after (opener.Call at called) = (parts : List (List ℕ)) × Takes (placed at (token.called parts)) before after × (callee_of parts ≡ callee called)
TakesOpener before after opener.Nothing = Stays is_opening before after × (head_is is_called before.tokens ≡ false)

-- the name is called, and there is no such function and no such relation
abbrev pub is_strange : Token → Bool
is_strange (token.called parts) = cond (is_known (callee_of parts)) false true
is_strange _ = false

-- a parenthesis is taken, and the levels inside it are one fewer
abbrev pub TakesOpening : ℕ → TokenList → TokenList → Result ℕ MatcherFault → Type 0
TakesOpening levels before after result = MatchResult result
    (λ inside. (at : ℕ) × Takes (placed at token.opening) before after × (levels ≡ suc inside))
    (λ fault. IsUnexpected is_opening before fault ⊎ ToldAt is_opening TooDeep before fault × (levels ≡ 0))

-- a closing parenthesis is taken
abbrev pub TakesClosing : TokenList → TokenList → Result (Unit {0}) MatcherFault → Type 0
TakesClosing before after result = MatchResult result (λ done. (at : ℕ) × Takes (placed at token.closing) before after) (IsUnexpected is_closing before)

-- the operand that a token alone is, with so many levels left
abbrev pub operand_of : ℕ → ℕ → Token → Result Expression MatcherFault
operand_of levels at (token.text bytes) = Ok (text at bytes)
operand_of levels at (token.unclosed bytes) = Err (OpenText at)
operand_of levels at (token.eval at_opening column) = cond (levels == 0) (Err (TooDeep at_opening)) (Ok (evaluated at column))
operand_of levels at (token.number digits) = cond (nat_lt (digits_value 10 digits) first_wide) (Ok (whole at (pos (digits_value 10 digits)))) (Err (NumberTooWide at))
operand_of levels at (token.name parts) = ok_or (name_operand at parts) (Unexpected at)
operand_of levels at _ = Err (Unexpected at)

-- what stands next does not say an operand
abbrev pub first_operand : ℕ → List Placed → ℕ → Result Expression MatcherFault
first_operand levels [] end = Err (Unexpected end)
first_operand levels (t ∷ ts) end = operand_of levels t.at t.token
