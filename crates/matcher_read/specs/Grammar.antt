-- The grammar of matchers over their tokens (Casbin, syntax for models: matchers), whatever names are called, with how many arguments, and however wide numbers are:
--     or     = and { "||" and }
--     and    = cmp { "&&" cmp }
--     cmp    = sum [ ( "==" | "!=" | "<" | "<=" | ">" | ">=" ) sum | "in" "(" list ")" ]
--     sum    = term { ( "+" | "-" ) term }
--     term   = unary { ( "*" | "/" | "%" ) unary }
--     unary  = ( "!" | "-" ) unary | prim
--     prim   = text | number | "true" | "false" | "r" names | "p" name | "eval" "(" "p" name ")" | called "(" list ")" | "(" or ")"
--     list   = or { "," or }
-- what `eval` calls, with its parentheses, is one token here.
use Rattle.std.specs.Prelude.{◌≡◌, ℕ, suc, pos, true, false, List, [], ◌∷◌, ◌++◌, codes}
use Rattle.std.specs.Str.Parse.{digits_value}
use Rattle.matcher_read.specs.Calls.{callee_of}
use Rattle.matcher_read.specs.Expression.{Expression, text, whole, truth, request, policy, evaluated, negation, opposite, binary, among, call, Expressions, no_more, one_more}
use Rattle.matcher_read.specs.Tokens.{Placed, placed}
use Rattle.matcher_read.specs.Tokens as token
use Rattle.matcher_read.specs.declared.tree.Operator.{Operator}
use Rattle.matcher_read.specs.declared.tree.Operator.TheVariants as op

-- the rules of the grammar
pub data Rule : Type 0 where
  or_rule : Rule
  and_rule : Rule
  cmp_rule : Rule
  sum_rule : Rule
  term_rule : Rule
  unary_rule : Rule
  prim_rule : Rule

-- what one rule derives, the other does too
pub data IsPartOf : Rule → Rule → Type 0 where
  and_or : IsPartOf and_rule or_rule
  cmp_and : IsPartOf cmp_rule and_rule
  sum_cmp : IsPartOf sum_rule cmp_rule
  term_sum : IsPartOf term_rule sum_rule
  unary_term : IsPartOf unary_rule term_rule
  prim_unary : IsPartOf prim_rule unary_rule

-- operators that may be repeated between parts of a rule; they group from the left
pub data Joins : Operator → Rule → Type 0 where
  or_joins : Joins op.Or or_rule
  and_joins : Joins op.And and_rule
  plus_joins : Joins op.Plus sum_rule
  minus_joins : Joins op.Minus sum_rule
  times_joins : Joins op.Times term_rule
  over_joins : Joins op.Over term_rule
  remainder_joins : Joins op.Remainder term_rule

-- operators that compare two sums
pub data Compares : Operator → Type 0 where
  equal_compares : Compares op.Equal
  not_equal_compares : Compares op.NotEqual
  less_compares : Compares op.Less
  at_most_compares : Compares op.AtMost
  greater_compares : Compares op.Greater
  at_least_compares : Compares op.AtLeast

mutual
  -- the tokens derive the expression by the rule, and no place of them has more than so many levels round it: each parenthesis, list of arguments or members, and each operator before its operand encloses one level
  pub data Derives : ℕ → Rule → List Placed → Expression → Type 0 where
    by_part : {n : ℕ} {rule part : Rule} {tokens : List Placed} {e : Expression} → IsPartOf part rule → Derives n part tokens e → Derives n rule tokens e
    by_join : {n at : ℕ} {rule part : Rule} {o : Operator} {tokens left right : List Placed} {e f : Expression} → Joins o rule → IsPartOf part rule
        → Derives n rule left e → Derives n part right f → tokens ≡ left ++ placed at (token.operator o) ∷ right → Derives n rule tokens (binary at o e f)
    by_comparison : {n at : ℕ} {o : Operator} {tokens left right : List Placed} {e f : Expression} → Compares o
        → Derives n sum_rule left e → Derives n sum_rule right f → tokens ≡ left ++ placed at (token.operator o) ∷ right → Derives n cmp_rule tokens (binary at o e f)
    by_members : (at_opening at_closing : ℕ) {n at : ℕ} {tokens left members : List Placed} {e : Expression} {es : Expressions} → Derives (suc n) sum_rule left e → DerivesList n members es
        → tokens ≡ left ++ placed at (token.name (codes "in" ∷ [])) ∷ placed at_opening token.opening ∷ members ++ placed at_closing token.closing ∷ [] → Derives (suc n) cmp_rule tokens (among at e es)
    by_negation : {n at : ℕ} {tokens : List Placed} {e : Expression} → Derives n unary_rule tokens e → Derives (suc n) unary_rule (placed at token.exclamation ∷ tokens) (negation at e)
    by_opposite : {n at : ℕ} {tokens : List Placed} {e : Expression} → Derives n unary_rule tokens e → Derives (suc n) unary_rule (placed at (token.operator op.Minus) ∷ tokens) (opposite at e)
    by_text : {n at : ℕ} {bytes : List ℕ} → Derives n prim_rule (placed at (token.text bytes) ∷ []) (text at bytes)
    by_unclosed : {n at : ℕ} {bytes : List ℕ} → Derives n prim_rule (placed at (token.unclosed bytes) ∷ []) (text at bytes)
    by_number : {n at : ℕ} {digits : List ℕ} → Derives n prim_rule (placed at (token.number digits) ∷ []) (whole at (pos (digits_value 10 digits)))
    by_true : {n at : ℕ} → Derives n prim_rule (placed at (token.name (codes "true" ∷ [])) ∷ []) (truth at true)
    by_false : {n at : ℕ} → Derives n prim_rule (placed at (token.name (codes "false" ∷ [])) ∷ []) (truth at false)
    by_request : {n at : ℕ} {column : List ℕ} {path : List (List ℕ)} → Derives n prim_rule (placed at (token.name (codes "r" ∷ column ∷ path)) ∷ []) (request at column path)
    by_policy : {n at : ℕ} {column : List ℕ} → Derives n prim_rule (placed at (token.name (codes "p" ∷ column ∷ [])) ∷ []) (policy at column)
    by_eval : {n at at_opening : ℕ} {column : List ℕ} → Derives (suc n) prim_rule (placed at (token.eval at_opening column) ∷ []) (evaluated at column)
    by_call : (at_opening at_closing : ℕ) {n at : ℕ} {parts : List (List ℕ)} {tokens arguments : List Placed} {es : Expressions} → DerivesList n arguments es
        → tokens ≡ placed at (token.called parts) ∷ placed at_opening token.opening ∷ arguments ++ placed at_closing token.closing ∷ [] → Derives (suc n) prim_rule tokens (call at (callee_of parts) es)
    by_parentheses : (at_opening at_closing : ℕ) {n : ℕ} {tokens inside : List Placed} {e : Expression} → Derives n or_rule inside e
        → tokens ≡ placed at_opening token.opening ∷ inside ++ placed at_closing token.closing ∷ [] → Derives (suc n) prim_rule tokens e

  -- the tokens derive the expressions, with commas between them
  pub data DerivesList : ℕ → List Placed → Expressions → Type 0 where
    by_last : {n : ℕ} {tokens : List Placed} {e : Expression} → Derives n or_rule tokens e → DerivesList n tokens (one_more e no_more)
    by_more : (at : ℕ) {n : ℕ} {tokens first others : List Placed} {e : Expression} {es : Expressions} → Derives n or_rule first e → DerivesList n others es
        → tokens ≡ first ++ placed at token.comma ∷ others → DerivesList n tokens (one_more e es)
