-- An expression with every node at one place, and the rule that an `eval` reads.
use Rattle.std.proofs.Common.{◌≡◌, inl, inr, ℕ, ◌+◌, List, refl, ap, ◌∙◌, subst, arith}
use Rattle.matcher_read.specs.Expression.{Expression, text, whole, truth, request, policy, evaluated, negation, opposite, binary, among, call, Expressions, no_more, one_more, place, nodes, all_nodes, among_some}
use Rattle.matcher_read.specs.Kinds.{is_of}
use Rattle.matcher_read.specs.declared.kinds.NodeKind.TheVariants.{Eval}
use Rattle.model_conf.specs.RuleText.{IsRuleText, has_eval}
use Rattle.matcher_meaning.specs.Answers.{Evaluation, then}
use Rattle.matcher_meaning.specs.Cases.{Case, row_text}
use Rattle.matcher_meaning.specs.Comes.{ComesTo, Evaluates, ReadsNone, all_at, each_at}
use Rattle.matcher_meaning.specs.Operators.{as_truth}
use Rattle.matcher_meaning.proofs.ComesLemmas.{OneRule}
use Rattle.matcher_meaning.proofs.PlainLemmas.{without_eval}

pub placed_at : (at : ℕ) (e : Expression) → place (all_at at e) ≡ at
placed_at at (text own bytes) = refl
placed_at at (whole own n) = refl
placed_at at (truth own b) = refl
placed_at at (request own column path) = refl
placed_at at (policy own column) = refl
placed_at at (evaluated own column) = refl
placed_at at (negation own e) = refl
placed_at at (opposite own e) = refl
placed_at at (binary own op e g) = refl
placed_at at (among own e es) = refl
placed_at at (call own callee es) = refl

mutual
  pub placed_eval : (at : ℕ) (e : Expression) → has_eval (all_at at e) ≡ has_eval e
  placed_eval at (text own bytes) = refl
  placed_eval at (whole own n) = refl
  placed_eval at (truth own b) = refl
  placed_eval at (request own column path) = refl
  placed_eval at (policy own column) = refl
  placed_eval at (evaluated own column) = refl
  placed_eval at (negation own e) = placed_eval at e
  placed_eval at (opposite own e) = placed_eval at e
  placed_eval at (binary own op e g) = rw (placed_eval at e, placed_eval at g) refl
  placed_eval at (among own e es) = rw (placed_eval at e, placed_evals at es) refl
  placed_eval at (call own callee es) = placed_evals at es

  placed_evals : (at : ℕ) (es : Expressions) → among_some (λ node. is_of node Eval) (each_at at es) ≡ among_some (λ node. is_of node Eval) es
  placed_evals at no_more = refl
  placed_evals at (one_more e es) = rw (placed_eval at e, placed_evals at es) refl

mutual
  pub placed_nodes : (at : ℕ) (e : Expression) → nodes (all_at at e) ≡ nodes e
  placed_nodes at (text own bytes) = refl
  placed_nodes at (whole own n) = refl
  placed_nodes at (truth own b) = refl
  placed_nodes at (request own column path) = refl
  placed_nodes at (policy own column) = refl
  placed_nodes at (evaluated own column) = refl
  placed_nodes at (negation own e) = ap (λ (n : ℕ). 1 + n) (placed_nodes at e)
  placed_nodes at (opposite own e) = ap (λ (n : ℕ). 1 + n) (placed_nodes at e)
  placed_nodes at (binary own op e g) = omega (arith, placed_nodes at e, placed_nodes at g)
  placed_nodes at (among own e es) = omega (arith, placed_nodes at e, placed_all_nodes at es)
  placed_nodes at (call own callee es) = ap (λ (n : ℕ). 1 + n) (placed_all_nodes at es)

  placed_all_nodes : (at : ℕ) (es : Expressions) → all_nodes (each_at at es) ≡ all_nodes es
  placed_all_nodes at no_more = refl
  placed_all_nodes at (one_more e es) = omega (arith, placed_nodes at e, placed_all_nodes at es)

-- what the rule comes to as an expression of its own, its nodes at the place of the `eval`, the `eval` comes to as a truth
pub eval_from_rule : (case : Case) (at : ℕ) (column : List ℕ) (rule : Expression) (x : Evaluation) → IsRuleText case.model (row_text case column) rule
    → ComesTo case (all_at at rule) x → ComesTo case (evaluated at column) (then x (as_truth at))
eval_from_rule case at column rule x is comes = inr (rule, is, (x, without_eval case (Evaluates case) ReadsNone (all_at at rule) (placed_eval at rule ∙ is.no_eval) x comes, refl))

pub rule_from_eval : OneRule → (case : Case) (at : ℕ) (column : List ℕ) (rule : Expression) (r : Evaluation) → IsRuleText case.model (row_text case column) rule
    → ComesTo case (evaluated at column) r → (x : Evaluation) × ComesTo case (all_at at rule) x × (r ≡ then x (as_truth at))
rule_from_eval rules case at column rule r is (inl p) = absurd (p.0 rule is)
rule_from_eval rules case at column rule r is (inr (own, said, (x, comes, e))) = (
  x,
  subst (λ (read : Expression). ComesTo case (all_at at read) x) (rules case.model (row_text case column) own rule said is)
      (without_eval case ReadsNone (Evaluates case) (all_at at own) (placed_eval at own ∙ said.no_eval) x comes),
  e,
)
