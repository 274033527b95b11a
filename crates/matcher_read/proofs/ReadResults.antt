-- What reading comes to at the exits of the parser's functions.
use Rattle.std.proofs.Common.{◌≡◌, ◌≢◌, ℕ, ◌++◌, true, false, List, [], ◌∷◌, Result, Ok, Err, MatchResult, refl, ap, sym, ◌∙◌, subst, map}
use Rattle.std.proofs.lemmas.List.{map_push}
use Rattle.std.specs.Global.{Vec}
use Rattle.std.specs.Result.{IsErrAnd}
use Rattle.matcher_read.specs.Calls.{callee_of, is_known, takes}
use Rattle.matcher_read.specs.Expression.{Callee, Expression, call, count, expression, expressions_of}
use Rattle.matcher_read.specs.Grammar.{Rule, or_rule, unary_rule, prim_rule, prim_unary}
use Rattle.matcher_read.specs.Helps.Machine.{Rank, term_rank, rank}
use Rattle.matcher_read.specs.Helps.Parsed.{Read, Fails, ReadsBy, ReadList, FailsList, ReadsList}
use Rattle.matcher_read.specs.Helps.TakenTokens.{callee, first_operand, goes_on_by, head_is, joins_by, is_called, is_opening, is_sign, may_follow, operand_of, part_of, rule_of, Stays, Takes}
use Rattle.matcher_read.specs.Helps.TokenLists.{TokenList, end_of}
use Rattle.matcher_read.specs.Tokens.{Placed, placed}
use Rattle.matcher_read.specs.Tokens as token
use Rattle.matcher_read.specs.declared.calls.Called.{Called}
use Rattle.matcher_read.specs.declared.calls.Called.TheVariants as kind
use Rattle.matcher_read.specs.declared.fault.MatcherFault.{MatcherFault}
use Rattle.matcher_read.specs.declared.fault.MatcherFault.TheVariants.{NoMemory, WrongArguments}
use Rattle.matcher_read.specs.declared.tree.Tree.{Tree}
use Rattle.matcher_read.specs.declared.words.Chain.{Chain}
use Rattle.matcher_read.proofs.ReadLevels.{called_token, Enclosed, fails_arguments, read_call}
use Rattle.matcher_read.proofs.ReadLists.{list_first, list_more}
use Rattle.matcher_read.proofs.ReadOperands.{fails_operand, read_operand}
use Rattle.matcher_read.proofs.ReadParts.{fails_part, read_end, read_part}
use Rattle.matcher_read.proofs.Ranks.{part_is}

-- a fault is passed on
pub fails_up : (n : ℕ) (rule : Rule) (before after : TokenList) (r : Result Tree MatcherFault) (e : MatcherFault) → IsErrAnd r (λ y. y ≡ e) → (e ≢ NoMemory → Fails n rule e before) → ReadsBy n rule before after r
fails_up n rule before after (Ok tree) e h f = absurd h
fails_up n rule before after (Err y) e h f = λ some. subst (λ (x : MatcherFault). Fails n rule x before) (sym h) (f (λ none. some (h ∙ none)))

pub list_fails_up : (n : ℕ) (before after : TokenList) (r : Result (Vec Tree) MatcherFault) (e : MatcherFault) → IsErrAnd r (λ y. y ≡ e) → (e ≢ NoMemory → FailsList n e before) → ReadsList n before after r
list_fails_up n before after (Ok trees) e h f = absurd h
list_fails_up n before after (Err y) e h f = λ some. subst (λ (x : MatcherFault). FailsList n x before) (sym h) (f (λ none. some (h ∙ none)))

-- what was read, by an equal expression
pub read_as : {n : ℕ} {rule stop : Rule} {e f : Expression} {before after : TokenList} → f ≡ e → Read n rule stop e before after → Read n rule stop f before after
read_as {n} {rule} {stop} {e} {f} {before} {after} same r = subst (λ (x : Expression). Read n rule stop x before after) (sym same) r

-- the end of a chain
pub chain_end : (c : Chain) {n : ℕ} {e : Expression} {before middle after : TokenList} → Read n (rule_of c) (part_of c) e before middle → Stays (goes_on_by (rule_of c)) middle after → Read n (rule_of c) (rule_of c) e before after
chain_end c {n} {e} {before} {middle} {after} r s = let P : TokenList → Type 0 = λ list. Read n (rule_of c) (rule_of c) e before list in subst P (sym s.same) (read_end (part_is c) r s.head)

-- from equal tokens
pub read_same : {n : ℕ} {rule stop : Rule} {e : Expression} {middle before after : TokenList} → middle ≡ before → Read n rule stop e middle after → Read n rule stop e before after
read_same {n} {rule} {stop} {e} {middle} {before} {after} same r = let P : TokenList → Type 0 = λ list. Read n rule stop e list after in subst P same r

pub fails_same : {n : ℕ} {rule : Rule} {fault : MatcherFault} {middle before : TokenList} → middle ≡ before → Fails n rule fault middle → Fails n rule fault before
fails_same {n} {rule} {fault} {middle} {before} same f = let P : TokenList → Type 0 = λ list. Fails n rule fault list in subst P same f

-- no operator stands between operands without signs
no_joins : (r : Rank) → joins_by unary_rule r ≡ false
no_joins term_rank = refl
no_joins _ = refl

head_no_joins : (ts : List Placed) → head_is (goes_on_by unary_rule) ts ≡ false
head_no_joins [] = refl
head_no_joins (t ∷ ts) = by_token t.token
  where
    by_token : (k : token.Token) → goes_on_by unary_rule k ≡ false
    by_token (token.operator o) = no_joins (rank o)
    by_token _ = refl

-- an operand without a sign
pub primary_reads : (n : ℕ) (before middle after : TokenList) (r : Result Tree MatcherFault) → Stays is_sign before middle → ReadsBy n prim_rule middle after r → ReadsBy n unary_rule before after r
primary_reads n before middle after (Ok tree) s h = read_same s.same (read_end prim_unary (read_part prim_unary h) (head_no_joins after.tokens))
primary_reads n before middle after (Err fault) s h = λ some. fails_same s.same (fails_part prim_unary (h some))

-- a literal, a name or the `eval` of a column
pub literal_reads : (n : ℕ) (before middle after : TokenList) (r : Result Tree MatcherFault) → head_is is_sign before.tokens ≡ false → Stays is_opening before middle → head_is is_called before.tokens ≡ false
    → MatchResult r (λ tree. (first : Placed) × Takes first middle after × (operand_of n first.at first.token ≡ Ok (expression tree))) (λ fault. fault ≢ NoMemory → first_operand n middle.tokens (end_of middle.stray middle.size) ≡ Err fault)
    → ReadsBy n prim_rule before after r
literal_reads n before middle after (Ok tree) a s c h = read_same s.same (read_operand h.1 h.2)
literal_reads n before middle after (Err fault) a s c h =
    λ some. fails_operand a s.head c (ap (λ (list : TokenList). first_operand n list.tokens (end_of list.stray list.size)) (sym s.same) ∙ h some)

-- a call with its arguments
callee_known : (called : Called) → is_known (callee called) ≡ true
callee_known (kind.Function called) = refl
callee_known (kind.Relation number) = refl
callee_known kind.Eval = refl

pub call_reads : (n : ℕ) {inside at : ℕ} {parts : List (List ℕ)} (called : Called) {es : List Expression} {before behind after : TokenList} (r : Result Tree MatcherFault) → Takes (called_token at parts) before behind → callee_of parts ≡ callee called
    → Enclosed n inside es behind after
    → MatchResult r (λ made. (takes (callee called) (count (expressions_of es)) ≡ true) × (expression made ≡ call at (callee called) (expressions_of es))) (λ fault. (takes (callee called) (count (expressions_of es)) ≡ false) × (fault ≡ WrongArguments at))
    → ReadsBy n prim_rule before after r
call_reads n {inside} {at} {parts} called {es} {before} {behind} {after} (Ok made) t same p h =
    read_as (h.1 ∙ ap (λ (c : Callee). call at c (expressions_of es)) (sym same)) (read_call t p (ap (λ (c : Callee). takes c (count (expressions_of es))) same ∙ h.0))
call_reads n {inside} {at} {parts} called {es} {before} {behind} {after} (Err fault) t same p h =
    λ some. subst (λ (f : MatcherFault). Fails n prim_rule f before) (sym h.1) (fails_arguments t (ap is_known same ∙ callee_known called) p (ap (λ (c : Callee). takes c (count (expressions_of es))) same ∙ h.0))

pub known_is : (parts : List (List ℕ)) (called : Called) → callee_of parts ≡ callee called → is_known (callee_of parts) ≡ true
known_is parts called same = ap is_known same ∙ callee_known called

-- lists of trees
pub trees_first : {n : ℕ} {before after : TokenList} (trees : List Tree) (tree : Tree) → trees ≡ tree ∷ [] → Read n or_rule or_rule (expression tree) before after → ReadList n (may_follow or_rule) (map expression trees) before after
trees_first {n} {before} {after} trees tree e r = subst (λ (ts : List Tree). ReadList n (may_follow or_rule) (map expression ts) before after) (sym e) (list_first r)

pub trees_more : {n at : ℕ} {before middle behind after : TokenList} (old new : List Tree) (tree : Tree) → new ≡ old ++ tree ∷ [] → ReadList n (may_follow or_rule) (map expression old) before middle → Takes (placed at token.comma) middle behind
    → Read n or_rule or_rule (expression tree) behind after → ReadList n (may_follow or_rule) (map expression new) before after
trees_more {n} {at} {before} {middle} {behind} {after} old new tree e r t k =
    subst (λ (es : List Expression). ReadList n (may_follow or_rule) es before after) (sym (ap (map expression) e ∙ map_push expression old tree)) (list_more r t k)
