-- What a matcher comes to, operands being evaluated from the left (Casbin, syntax for models: matchers; attributes of a request: eval).
use Rattle.std.specs.Prelude.{◌≡◌, ◌⊎◌, ℕ, ◌||◌, Bool, false, List, [], Result, Ok}
use Rattle.effect_fold.specs.declared.fault.Cause.TheVariants.{RuleText}
use Rattle.effect_fold.specs.declared.fault.Fault.{Fault}
use Rattle.perm_value.specs.Datum.{Datum}
use Rattle.perm_value.specs.Datum as datum
use Rattle.matcher_read.specs.Expression.{Callee, Expression, text, whole, truth, request, policy, evaluated, negation, opposite, binary, among, call, Expressions, no_more, one_more, place, some_node, among_some}
use Rattle.matcher_read.specs.Kinds.{is_of}
use Rattle.matcher_read.specs.declared.kinds.NodeKind.TheVariants.{Eval}
use Rattle.matcher_read.specs.declared.tree.Operator.{Operator}
use Rattle.model_conf.specs.RuleText.{IsRuleText, IsNoRuleText}
use Rattle.matcher_meaning.specs.Answers.{Evaluation, fails, then, After, Unless, with_first}
use Rattle.matcher_meaning.specs.CaseCalls.{Gives}
use Rattle.matcher_meaning.specs.Cases.{Case, asked_value, row_text}
use Rattle.matcher_meaning.specs.Meaning.{along, truth_at, is_search_call}
use Rattle.matcher_meaning.specs.Operators.{negated, opposed, as_truth, settled, joined, ended_among}

-- `!x` and `-x`: what is given for the value that the operand comes to; its fault stays one
abbrev pub IsOfOne : (Operand : Evaluation → Type 0) → (Datum → Evaluation) → Evaluation → Type 0
IsOfOne Operand given r = (x : Evaluation) × Operand x × (r ≡ then x given)

-- `x && y`, `x || y`, comparisons and arithmetic: what the left value gives alone, and then the right side is not evaluated; else what both give
abbrev pub IsOfTwo : ℕ → Operator → (Left Right : Evaluation → Type 0) → Evaluation → Type 0
IsOfTwo at op Left Right r = (x : Evaluation) × Left x × After x (λ d. Unless (settled at op d) (IsOfOne Right (joined at op d) r) r) r

-- `x in (a, b)`: what is said of the members for the value that the left side comes to
abbrev pub IsOfMembers : (Left : Evaluation → Type 0) → (Among : Datum → Evaluation → Type 0) → Evaluation → Type 0
IsOfMembers Left Among r = (x : Evaluation) × Left x × After x (λ d. Among d r) r

-- one member, and what is said of the further ones: they are evaluated where this one does not end it
abbrev pub IsOfMember : Datum → (Member : Evaluation → Type 0) → (Others : Type 0) → Evaluation → Type 0
IsOfMember d Member Others r = (x : Evaluation) × Member x × Unless (ended_among d x) Others r

-- a call: what it gives for the values that all its arguments come to
abbrev pub IsOfCall : Case → ℕ → Callee → (Arguments : Result (List Datum) Fault → Type 0) → Evaluation → Type 0
IsOfCall case at callee Arguments r = (x : Result (List Datum) Fault) × Arguments x × After x (λ ds. Gives case at callee ds r) r

-- arguments from the left: the first fault, or the value before those of the others
abbrev pub IsOfArguments : (First : Evaluation → Type 0) → (Others : Result (List Datum) Fault → Type 0) → Result (List Datum) Fault → Type 0
IsOfArguments First Others r = (x : Evaluation) × First x × After x (λ d. (y : Result (List Datum) Fault) × Others y × (r ≡ with_first d y)) r

abbrev mutual
  -- the expression comes to this answer, by the form that it has; an `eval` at a place, of a column, comes to what is said of it
  pub ComesToBy : Case → (ℕ → List ℕ → Evaluation → Type 0) → Expression → Evaluation → Type 0
  ComesToBy case Evals (text at bytes) r = r ≡ Ok (datum.text bytes)
  ComesToBy case Evals (whole at n) r = r ≡ Ok (datum.whole n)
  ComesToBy case Evals (truth at b) r = r ≡ Ok (datum.truth b)
  ComesToBy case Evals (request at column path) r = r ≡ along at (asked_value case column) path
  ComesToBy case Evals (policy at column) r = r ≡ Ok (datum.text (row_text case column))
  ComesToBy case Evals (evaluated at column) r = Evals at column r
  ComesToBy case Evals (negation at e) r = IsOfOne (λ x. ComesToBy case Evals e x) (negated at) r
  ComesToBy case Evals (opposite at e) r = IsOfOne (λ x. ComesToBy case Evals e x) (opposed at) r
  ComesToBy case Evals (binary at op e f) r = IsOfTwo at op (λ x. ComesToBy case Evals e x) (λ y. ComesToBy case Evals f y) r
  ComesToBy case Evals (among at e es) r = IsOfMembers (λ x. ComesToBy case Evals e x) (λ d s. IsAmongBy case Evals d es s) r
  ComesToBy case Evals (call at callee es) r = IsOfCall case at callee (λ x. ComeToBy case Evals es x) r

  -- whether the value is among these members: true at the first that is or holds it, and no later one is evaluated
  pub IsAmongBy : Case → (ℕ → List ℕ → Evaluation → Type 0) → Datum → Expressions → Evaluation → Type 0
  IsAmongBy case Evals d no_more r = r ≡ Ok (datum.truth false)
  IsAmongBy case Evals d (one_more e es) r = IsOfMember d (λ x. ComesToBy case Evals e x) (IsAmongBy case Evals d es r) r

  -- these expressions come to these values, or to the first fault
  pub ComeToBy : Case → (ℕ → List ℕ → Evaluation → Type 0) → Expressions → Result (List Datum) Fault → Type 0
  ComeToBy case Evals no_more r = r ≡ Ok []
  ComeToBy case Evals (one_more e es) r = IsOfArguments (λ x. ComesToBy case Evals e x) (λ y. ComeToBy case Evals es y) r

-- an `eval` in a rule text reads none: a rule text has no `eval`
abbrev pub ReadsNone : ℕ → List ℕ → Evaluation → Type 0
ReadsNone at column r = r ≡ fails RuleText at

abbrev mutual
  -- the expression with every node at this place
  pub all_at : ℕ → Expression → Expression
  all_at at (text own bytes) = text at bytes
  all_at at (whole own n) = whole at n
  all_at at (truth own b) = truth at b
  all_at at (request own column path) = request at column path
  all_at at (policy own column) = policy at column
  all_at at (evaluated own column) = evaluated at column
  all_at at (negation own e) = negation at (all_at at e)
  all_at at (opposite own e) = opposite at (all_at at e)
  all_at at (binary own op e f) = binary at op (all_at at e) (all_at at f)
  all_at at (among own e es) = among at (all_at at e) (each_at at es)
  all_at at (call own callee es) = call at callee (each_at at es)

  -- each of the expressions with every node at this place
  pub each_at : ℕ → Expressions → Expressions
  each_at at no_more = no_more
  each_at at (one_more e es) = one_more (all_at at e) (each_at at es)

-- what a rule comes to that is read at this place: a truth or its fault; another value is of another kind
abbrev pub RuleComesTo : Case → ℕ → Expression → Evaluation → Type 0
RuleComesTo case at rule r = IsOfOne (λ x. ComesToBy case ReadsNone (all_at at rule) x) (as_truth at) r

-- what an `eval` at this place comes to: the row's field in the column says no rule of the model, or it says one, and this is what the rule comes to
abbrev pub Evaluates : Case → ℕ → List ℕ → Evaluation → Type 0
Evaluates case at column r =
    (IsNoRuleText case.model (row_text case column) × (r ≡ fails RuleText at))
    ⊎ ((rule : Expression) × IsRuleText case.model (row_text case column) rule × RuleComesTo case at rule r)

-- the expression comes to this answer
abbrev pub ComesTo : Case → Expression → Evaluation → Type 0
ComesTo case e r = ComesToBy case (Evaluates case) e r

-- the whole matcher comes to this truth or fault
abbrev pub TruthIs : Case → Expression → Result Bool Fault → Type 0
TruthIs case e r = (x : Evaluation) × ComesTo case e x × (r ≡ then x (truth_at (place e)))

-- a call of `regexMatch`, or an `eval`
abbrev pub is_taker : Expression → Bool
is_taker node = is_search_call node || is_of node Eval

-- a `regexMatch` or an `eval` stands in the expression
abbrev pub takes_memory : Expression → Bool
takes_memory e = some_node is_taker e

-- one of the expressions has one
abbrev pub some_take_memory : Expressions → Bool
some_take_memory es = among_some is_taker es
