-- Which patterns a matcher asks for: those of its calls of `regexMatch`, and of the rules that its `eval`s read.
use Rattle.std.specs.Prelude.{◌≡◌, ◌⊎◌, ℕ, List, [], ◌∷◌, Ok}
use Rattle.matcher_read.specs.Expression.{function, Expression, text, whole, truth, request, policy, evaluated, negation, opposite, binary, among, call, Expressions, no_more, one_more}
use Rattle.matcher_read.specs.declared.tree.Function.TheVariants.{RegexMatch}
use Rattle.model_conf.specs.RuleText.{IsRuleText}
use Rattle.perm_value.specs.Datum as datum
use Rattle.matcher_meaning.specs.Answers.{Evaluation}
use Rattle.matcher_meaning.specs.Cases.{Case, row_text}
use Rattle.matcher_meaning.specs.Comes.{ComeToBy, Evaluates, ReadsNone, all_at}

abbrev mutual
  -- this holds of the expression, or of one that stands in it
  pub SomePart : (Expression → Type 0) → Expression → Type 0
  SomePart Is (text at bytes) = Is (text at bytes)
  SomePart Is (whole at n) = Is (whole at n)
  SomePart Is (truth at b) = Is (truth at b)
  SomePart Is (request at column path) = Is (request at column path)
  SomePart Is (policy at column) = Is (policy at column)
  SomePart Is (evaluated at column) = Is (evaluated at column)
  SomePart Is (negation at e) = Is (negation at e) ⊎ SomePart Is e
  SomePart Is (opposite at e) = Is (opposite at e) ⊎ SomePart Is e
  SomePart Is (binary at op e f) = Is (binary at op e f) ⊎ (SomePart Is e ⊎ SomePart Is f)
  SomePart Is (among at e es) = Is (among at e es) ⊎ (SomePart Is e ⊎ SomePartOf Is es)
  SomePart Is (call at callee es) = Is (call at callee es) ⊎ SomePartOf Is es

  -- it does of a part of one of the expressions
  pub SomePartOf : (Expression → Type 0) → Expressions → Type 0
  SomePartOf Is no_more = ⊥
  SomePartOf Is (one_more e es) = SomePart Is e ⊎ SomePartOf Is es

-- a call of `regexMatch` at this place whose arguments come to a text and this pattern, or an `eval` there of which this is said
abbrev pub AsksHere : Case → (ℕ → List ℕ → Evaluation → Type 0) → (ℕ → List ℕ → List ℕ → Type 0) → ℕ → List ℕ → Expression → Type 0
AsksHere case Evals EvalAsks at pattern (call own (function RegexMatch) es) = (own ≡ at) × ((t : List ℕ) × ComeToBy case Evals es (Ok (datum.text t ∷ datum.text pattern ∷ [])))
AsksHere case Evals EvalAsks at pattern (evaluated own column) = (own ≡ at) × EvalAsks at column pattern
AsksHere case Evals EvalAsks at pattern _ = ⊥

-- a rule text has no `eval`
abbrev pub AsksNothing : ℕ → List ℕ → List ℕ → Type 0
AsksNothing at column pattern = ⊥

-- the rule that an `eval` at this place reads, moved there, asks for this pattern
abbrev pub RuleAsks : Case → ℕ → List ℕ → List ℕ → Type 0
RuleAsks case at column pattern =
    (rule : Expression) × IsRuleText case.model (row_text case column) rule × SomePart (AsksHere case ReadsNone AsksNothing at pattern) (all_at at rule)

-- the expression asks at this place for this pattern
abbrev pub Asks : Case → Expression → ℕ → List ℕ → Type 0
Asks case e at pattern = SomePart (AsksHere case (Evaluates case) (RuleAsks case) at pattern) e
