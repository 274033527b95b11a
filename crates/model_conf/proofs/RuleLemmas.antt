-- What is tested of a rule text, and what is told of one that is no matcher.
use Rattle.std.proofs.Common.{◌≡◌, ◌⊎◌, inl, inr, ℕ, Bool, true, false, List, Option, Some, None, Result, Err, refl, sym, ap, ◌∙◌}
use Rattle.std.proofs.lemmas.Bool.{false≢true}
use Rattle.matcher_read.specs.Expression.{Expression}
use Rattle.matcher_read.specs.Faults.{IsFault}
use Rattle.matcher_read.specs.Matcher.{IsMatcher}
use Rattle.matcher_read.specs.declared.fault.MatcherFault.{MatcherFault}
use Rattle.matcher_read.specs.declared.fault.MatcherFault.TheVariants as m
use Rattle.matcher_read.specs.declared.tree.Tree.{Tree}
use Rattle.model_conf.specs.Helps.RuleTexts.{fault_of_matcher, is_rule}
use Rattle.model_conf.specs.ModelText.{ModelParts}
use Rattle.model_conf.specs.RuleText.{has_eval, IsRuleText, IsNoRuleText}
use Rattle.model_conf.specs.Uses.{Use, uses, first_undeclared}
use Rattle.model_conf.specs.declared.rule_text.RuleTextFault.{RuleTextFault}
use Rattle.model_conf.specs.declared.rule_text.RuleTextFault.TheVariants.{NoRule}

is_rule_is : (model : ModelParts) (bytes : List ℕ) (e : Expression) → IsRuleText model bytes e → is_rule model e ≡ true
is_rule_is model bytes e is = rw (is.no_eval, is.declared) refl

-- a rule text whose matcher was read passes the test
pub passes : (model : ModelParts) (bytes : List ℕ) (read e : Expression) (result : Bool) → result ≡ is_rule model read → result ≡ false → read ≡ e → IsRuleText model bytes e → ⊥
passes model bytes read e result tested fails same is =
    false≢true (sym fails ∙ tested ∙ ap (is_rule model) same ∙ is_rule_is model bytes e is)

-- a matcher for which memory ran out is not told as no rule
pub no_memory_of : (stop : MatcherFault) → ◌≡◌ {A = Result Tree RuleTextFault} (Err (fault_of_matcher stop)) (Err NoRule) → stop ≡ m.NoMemory → ⊥
no_memory_of stop told same =
    let other = ap fault_of_matcher same in
    absurd cc

-- a text says a rule or none, by the matcher that it says
pub rule_or_none : ((bytes : List ℕ) → ((e : Expression) × IsMatcher bytes e) ⊎ ((fault : MatcherFault) × IsFault bytes fault))
    → ((bytes : List ℕ) (first second : Expression) → IsMatcher bytes first → IsMatcher bytes second → first ≡ second)
    → ((bytes : List ℕ) (fault : MatcherFault) (e : Expression) → IsFault bytes fault → ¬ (IsMatcher bytes e))
    → (model : ModelParts) (bytes : List ℕ) → ((rule : Expression) × IsRuleText model bytes rule) ⊎ IsNoRuleText model bytes
rule_or_none there one never model bytes = by_text (there bytes)
  where
    by_uses : (e : Expression) → IsMatcher bytes e → has_eval e ≡ false → (o : Option Use) → first_undeclared model.request model.policy model.relations (uses e) ≡ o
        → ((rule : Expression) × IsRuleText model bytes rule) ⊎ IsNoRuleText model bytes
    by_uses e m plain None declared = inl (e, record { matcher = m; no_eval = plain; declared = declared })
    by_uses e m plain (Some use_) first = inr (λ rule is.
        let bad : Some use_ ≡ None = sym first ∙ (ap (λ x. first_undeclared model.request model.policy model.relations (uses x)) (one bytes e rule m is.matcher) ∙ is.declared) in absurd cc)

    by_eval : (e : Expression) → IsMatcher bytes e → (b : Bool) → has_eval e ≡ b → ((rule : Expression) × IsRuleText model bytes rule) ⊎ IsNoRuleText model bytes
    by_eval e m true found = inr (λ rule is. false≢true (sym is.no_eval ∙ (ap has_eval (one bytes rule e is.matcher m) ∙ found)))
    by_eval e m false plain = by_uses e m plain (first_undeclared model.request model.policy model.relations (uses e)) refl

    by_text : ((e : Expression) × IsMatcher bytes e) ⊎ ((fault : MatcherFault) × IsFault bytes fault) → ((rule : Expression) × IsRuleText model bytes rule) ⊎ IsNoRuleText model bytes
    by_text (inl (e, m)) = by_eval e m (has_eval e) refl
    by_text (inr (fault, is)) = inr (λ rule said. never bytes fault rule is said.matcher)
