-- The code that is built for a model's matcher, or for a rule of the model.
use Rattle.std.proofs.Common.{◌≡◌, ℕ, ◌≤◌, Bool, true, List, length, Option, Some, None, Result, sym, ap, ◌∙◌, subst}
use Rattle.effect_fold.specs.declared.fault.Fault.{Fault}
use Rattle.matcher_read.specs.Expression.{Expression, nodes}
use Rattle.matcher_read.specs.Matcher.{is_sound}
use Rattle.model_conf.specs.Kept.{IsKept}
use Rattle.model_conf.specs.ModelText.{ModelParts}
use Rattle.model_conf.specs.Uses.{first_undeclared, uses}
use Rattle.matcher_meaning.specs.Answers.{Evaluation}
use Rattle.matcher_meaning.specs.Cases.{Case}
use Rattle.matcher_meaning.specs.Comes.{RuleComesTo, TruthIs, all_at}
use Rattle.matcher_meaning.proofs.CallerLemmas.{placed_nodes}
use Rattle.matcher_code.specs.Compiled.{IsRule, as_answer, code_of}
use Rattle.matcher_code.specs.Helps.NodePlaces.{placed}
use Rattle.matcher_code.specs.Machine.{CodeComesTo}
use Rattle.matcher_code.specs.Rules.{IsVerified, greatest_height}
use Rattle.matcher_code.specs.declared.op.Op.{Op}
use Rattle.matcher_code.proofs.BuildRules.{placed_named, placed_sound}
use Rattle.matcher_code.proofs.BuildUses.{all_named, are_named}
use Rattle.matcher_code.proofs.BuildWhole.{rule_means, whole_keeps, whole_means, whole_truth}

-- the code keeps the rules, and its height is no more than the expression has nodes
pub code_keeps : (model : ModelParts) (from : Option ℕ) (e : Expression) (ops : List Op) → IsKept model → is_sound e ≡ true → first_undeclared model.request model.policy model.relations (uses e) ≡ None → ops ≡ code_of model (placed from e)
    → IsVerified ops (length model.request) (length model.policy) × (greatest_height ops ≤ nodes e)
code_keeps model None e ops kept sound declared is =
    subst (λ (l : List Op). IsVerified l (length model.request) (length model.policy) × (greatest_height l ≤ nodes e)) (sym is) (whole_keeps model e kept.relations sound (all_named model (uses e) declared))
code_keeps model (Some at) e ops kept sound declared is =
    let keeps = whole_keeps model (all_at at e) kept.relations (placed_sound at e ∙ sound) (placed_named model at e ∙ all_named model (uses e) declared) in
    subst (λ (l : List Op). IsVerified l (length model.request) (length model.policy) × (greatest_height l ≤ nodes e)) (sym is)
    (keeps.0, subst (λ (n : ℕ). greatest_height (code_of model (all_at at e)) ≤ n) (placed_nodes at e) keeps.1)

-- what it comes to in a case of the model
module _ (model : ModelParts) (kept : IsKept model) (e : Expression) (same : e ≡ model.matcher) (ops : List Op) (is : ops ≡ code_of model e) (case : Case) (of_model : case.model ≡ model) where
  comes_so : (r : Evaluation) → CodeComesTo case ops r → CodeComesTo case (code_of case.model model.matcher) r
  comes_so r comes = subst (λ (l : List Op). CodeComesTo case l r) (is ∙ ap (code_of model) same ∙ ap (λ (m : ModelParts). code_of m model.matcher) (sym of_model)) comes

  pub matcher_truth : (r : Evaluation) → CodeComesTo case ops r → (t : Result Bool Fault) × (r ≡ as_answer t) × TruthIs case model.matcher t
  matcher_truth r comes =
      whole_truth case model.matcher r kept.matcher.sound (subst (λ (m : ModelParts). are_named m (uses model.matcher) ≡ true) (sym of_model) (all_named model (uses model.matcher) kept.declared)) (comes_so r comes)

  pub matcher_means : (t : Result Bool Fault) → CodeComesTo case ops (as_answer t) → TruthIs case model.matcher t
  matcher_means t comes =
      whole_means case model.matcher t kept.matcher.sound (subst (λ (m : ModelParts). are_named m (uses model.matcher) ≡ true) (sym of_model) (all_named model (uses model.matcher) kept.declared)) (comes_so (as_answer t) comes)

pub rule_comes : (model : ModelParts) (rule : Expression) (at : ℕ) (ops : List Op) → IsRule model rule → ops ≡ code_of model (all_at at rule) → (case : Case) (r : Evaluation) → case.model ≡ model → CodeComesTo case ops r → RuleComesTo case at rule r
rule_comes model rule at ops (bytes, said) is case r of_model comes =
    let named = placed_named model at rule ∙ all_named model (uses rule) said.declared in
    rule_means case at rule r (placed_sound at rule ∙ said.matcher.sound) (subst (λ (m : ModelParts). are_named m (uses (all_at at rule)) ≡ true) (sym of_model) named) said.no_eval
    (subst (λ (l : List Op). CodeComesTo case l r) (is ∙ ap (λ (m : ModelParts). code_of m (all_at at rule)) (sym of_model)) comes)
