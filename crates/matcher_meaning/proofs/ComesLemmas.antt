-- An expression comes to one answer in a case.
use Rattle.std.proofs.Common.{◌≡◌, ◌⊎◌, inl, inr, ℕ, Bool, false, List, [], Result, Ok, refl, sym, ◌∙◌, subst}
use Rattle.effect_fold.specs.declared.fault.Cause.TheVariants.{RuleText}
use Rattle.effect_fold.specs.declared.fault.Fault.{Fault}
use Rattle.perm_value.specs.Datum.{Datum}
use Rattle.perm_value.specs.Datum as datum
use Rattle.matcher_read.specs.Expression.{Expression, text, whole, truth, request, policy, evaluated, negation, opposite, binary, among, call, Expressions, no_more, one_more, place}
use Rattle.model_conf.specs.ModelText.{ModelParts}
use Rattle.model_conf.specs.RuleText.{IsRuleText, IsNoRuleText}
use Rattle.matcher_meaning.specs.Answers.{Evaluation, fails, then, After, Unless, with_first}
use Rattle.matcher_meaning.specs.CaseCalls.{Gives}
use Rattle.matcher_meaning.specs.Cases.{Case, asked_value, row_text}
use Rattle.matcher_meaning.specs.Comes.{ComesToBy, IsAmongBy, ComeToBy, ReadsNone, all_at, RuleComesTo, Evaluates, ComesTo, TruthIs}
use Rattle.matcher_meaning.specs.Meaning.{along, truth_at}
use Rattle.matcher_meaning.specs.Operators.{negated, opposed, as_truth, settled, joined, ended_among}
use Rattle.matcher_meaning.proofs.CallLemmas.{AtMostOne, AtLeastOne, FunctionsAgree, FunctionsDecide}
use Rattle.matcher_meaning.proofs.CaseCallLemmas.{ReachingIsDecided, gives_one, gives_some}
use Rattle.matcher_meaning.proofs.StepLemmas.{one_next, unless_one, after_one, first_one, some_next, unless_some, after_some, first_some}

-- a text says one rule at most
abbrev pub OneRule : Type 0
OneRule = (model : ModelParts) (bytes : List ℕ) (first second : Expression) → IsRuleText model bytes first → IsRuleText model bytes second → first ≡ second

-- a text says a rule, or none
abbrev pub RuleOrNone : Type 0
RuleOrNone = (model : ModelParts) (bytes : List ℕ) → ((rule : Expression) × IsRuleText model bytes rule) ⊎ IsNoRuleText model bytes

mutual
  pub comes_to_one : FunctionsAgree → (case : Case) (Evals : ℕ → List ℕ → Evaluation → Type 0) → ((at : ℕ) (column : List ℕ) → AtMostOne (Evals at column)) → (e : Expression) → AtMostOne (ComesToBy case Evals e)
  comes_to_one agree case Evals one (text at bytes) r s p q = p ∙ sym q
  comes_to_one agree case Evals one (whole at n) r s p q = p ∙ sym q
  comes_to_one agree case Evals one (truth at b) r s p q = p ∙ sym q
  comes_to_one agree case Evals one (request at column path) r s p q = p ∙ sym q
  comes_to_one agree case Evals one (policy at column) r s p q = p ∙ sym q
  comes_to_one agree case Evals one (evaluated at column) r s p q = one at column r s p q
  comes_to_one agree case Evals one (negation at e) r s p q = one_next (ComesToBy case Evals e) (λ x. then x (negated at)) (comes_to_one agree case Evals one e) r s p q
  comes_to_one agree case Evals one (opposite at e) r s p q = one_next (ComesToBy case Evals e) (λ x. then x (opposed at)) (comes_to_one agree case Evals one e) r s p q
  comes_to_one agree case Evals one (binary at op e f) r s p q =
      first_one (ComesToBy case Evals e) (λ r x. After x (λ d. Unless (settled at op d) ((y : Evaluation) × ComesToBy case Evals f y × (r ≡ then y (joined at op d))) r) r) (comes_to_one agree case Evals one e)
      (λ x. after_one x (λ r d. Unless (settled at op d) ((y : Evaluation) × ComesToBy case Evals f y × (r ≡ then y (joined at op d))) r)
      (λ d. unless_one (settled at op d) (λ r. (y : Evaluation) × ComesToBy case Evals f y × (r ≡ then y (joined at op d))) (one_next (ComesToBy case Evals f) (λ y. then y (joined at op d)) (comes_to_one agree case Evals one f)))) r s p q
  comes_to_one agree case Evals one (among at e es) r s p q =
      first_one (ComesToBy case Evals e) (λ r x. After x (λ d. IsAmongBy case Evals d es r) r) (comes_to_one agree case Evals one e)
      (λ x. after_one x (λ r d. IsAmongBy case Evals d es r) (λ d. is_among_one agree case Evals one d es)) r s p q
  comes_to_one agree case Evals one (call at callee es) r s p q =
      first_one (ComeToBy case Evals es) (λ r x. After x (λ ds. Gives case at callee ds r) r) (come_to_one agree case Evals one es)
      (λ x. after_one x (λ r ds. Gives case at callee ds r) (λ ds. gives_one agree case at callee ds)) r s p q

  pub is_among_one : FunctionsAgree → (case : Case) (Evals : ℕ → List ℕ → Evaluation → Type 0) → ((at : ℕ) (column : List ℕ) → AtMostOne (Evals at column)) → (d : Datum) (es : Expressions) → AtMostOne (IsAmongBy case Evals d es)
  is_among_one agree case Evals one d no_more r s p q = p ∙ sym q
  is_among_one agree case Evals one d (one_more e es) r s p q =
      first_one (ComesToBy case Evals e) (λ r x. Unless (ended_among d x) (IsAmongBy case Evals d es r) r) (comes_to_one agree case Evals one e)
      (λ x. unless_one (ended_among d x) (IsAmongBy case Evals d es) (is_among_one agree case Evals one d es)) r s p q

  pub come_to_one : FunctionsAgree → (case : Case) (Evals : ℕ → List ℕ → Evaluation → Type 0) → ((at : ℕ) (column : List ℕ) → AtMostOne (Evals at column)) → (es : Expressions) → AtMostOne (ComeToBy case Evals es)
  come_to_one agree case Evals one no_more r s p q = p ∙ sym q
  come_to_one agree case Evals one (one_more e es) r s p q =
      first_one (ComesToBy case Evals e) (λ r x. After x (λ d. (y : Result (List Datum) Fault) × ComeToBy case Evals es y × (r ≡ with_first d y)) r) (comes_to_one agree case Evals one e)
      (λ x. after_one x (λ r d. (y : Result (List Datum) Fault) × ComeToBy case Evals es y × (r ≡ with_first d y)) (λ d. one_next (ComeToBy case Evals es) (with_first d) (come_to_one agree case Evals one es))) r s p q

reads_none_one : (at : ℕ) (column : List ℕ) → AtMostOne (ReadsNone at column)
reads_none_one at column r s p q = p ∙ sym q

rule_comes_to_one : FunctionsAgree → (case : Case) (at : ℕ) (rule : Expression) → AtMostOne (RuleComesTo case at rule)
rule_comes_to_one agree case at rule =
    one_next (ComesToBy case ReadsNone (all_at at rule)) (λ x. then x (as_truth at)) (comes_to_one agree case ReadsNone reads_none_one (all_at at rule))

evaluates_one : FunctionsAgree → OneRule → (case : Case) (at : ℕ) (column : List ℕ) → AtMostOne (Evaluates case at column)
evaluates_one agree rules case at column r s (inl p) (inl q) = p.1 ∙ sym q.1
evaluates_one agree rules case at column r s (inl p) (inr q) = absurd (p.0 q.0 q.1)
evaluates_one agree rules case at column r s (inr p) (inl q) = absurd (q.0 p.0 p.1)
evaluates_one agree rules case at column r s (inr p) (inr q) =
    rule_comes_to_one agree case at p.0 r s p.2 (subst (λ (rule : Expression). RuleComesTo case at rule s) (rules case.model (row_text case column) q.0 p.0 q.1 p.1) q.2)

pub one_comes : FunctionsAgree → OneRule → (case : Case) (e : Expression) (r s : Evaluation) → ComesTo case e r → ComesTo case e s → r ≡ s
one_comes agree rules case e = comes_to_one agree case (Evaluates case) (evaluates_one agree rules case) e

pub one_truth_is : FunctionsAgree → OneRule → (case : Case) (e : Expression) (r s : Result Bool Fault) → TruthIs case e r → TruthIs case e s → r ≡ s
one_truth_is agree rules case e = one_next (ComesTo case e) (λ x. then x (truth_at (place e))) (one_comes agree rules case e)

mutual
  pub comes_to_some : FunctionsDecide → ReachingIsDecided → (case : Case) (Evals : ℕ → List ℕ → Evaluation → Type 0) → ((at : ℕ) (column : List ℕ) → AtLeastOne (Evals at column)) → (e : Expression) → AtLeastOne (ComesToBy case Evals e)
  comes_to_some decide reach case Evals some (text at bytes) = (Ok (datum.text bytes), refl)
  comes_to_some decide reach case Evals some (whole at n) = (Ok (datum.whole n), refl)
  comes_to_some decide reach case Evals some (truth at b) = (Ok (datum.truth b), refl)
  comes_to_some decide reach case Evals some (request at column path) = (along at (asked_value case column) path, refl)
  comes_to_some decide reach case Evals some (policy at column) = (Ok (datum.text (row_text case column)), refl)
  comes_to_some decide reach case Evals some (evaluated at column) = some at column
  comes_to_some decide reach case Evals some (negation at e) = some_next (ComesToBy case Evals e) (λ x. then x (negated at)) (comes_to_some decide reach case Evals some e)
  comes_to_some decide reach case Evals some (opposite at e) = some_next (ComesToBy case Evals e) (λ x. then x (opposed at)) (comes_to_some decide reach case Evals some e)
  comes_to_some decide reach case Evals some (binary at op e f) =
      first_some (ComesToBy case Evals e) (λ r x. After x (λ d. Unless (settled at op d) ((y : Evaluation) × ComesToBy case Evals f y × (r ≡ then y (joined at op d))) r) r) (comes_to_some decide reach case Evals some e)
      (λ x. after_some x (λ r d. Unless (settled at op d) ((y : Evaluation) × ComesToBy case Evals f y × (r ≡ then y (joined at op d))) r)
      (λ d. unless_some (settled at op d) (λ r. (y : Evaluation) × ComesToBy case Evals f y × (r ≡ then y (joined at op d))) (some_next (ComesToBy case Evals f) (λ y. then y (joined at op d)) (comes_to_some decide reach case Evals some f))))
  comes_to_some decide reach case Evals some (among at e es) =
      first_some (ComesToBy case Evals e) (λ r x. After x (λ d. IsAmongBy case Evals d es r) r) (comes_to_some decide reach case Evals some e)
      (λ x. after_some x (λ r d. IsAmongBy case Evals d es r) (λ d. is_among_some decide reach case Evals some d es))
  comes_to_some decide reach case Evals some (call at callee es) =
      first_some (ComeToBy case Evals es) (λ r x. After x (λ ds. Gives case at callee ds r) r) (come_to_some decide reach case Evals some es)
      (λ x. after_some x (λ r ds. Gives case at callee ds r) (λ ds. gives_some decide reach case at callee ds))

  pub is_among_some : FunctionsDecide → ReachingIsDecided → (case : Case) (Evals : ℕ → List ℕ → Evaluation → Type 0) → ((at : ℕ) (column : List ℕ) → AtLeastOne (Evals at column)) → (d : Datum) (es : Expressions) → AtLeastOne (IsAmongBy case Evals d es)
  is_among_some decide reach case Evals some d no_more = (Ok (datum.truth false), refl)
  is_among_some decide reach case Evals some d (one_more e es) =
      first_some (ComesToBy case Evals e) (λ r x. Unless (ended_among d x) (IsAmongBy case Evals d es r) r) (comes_to_some decide reach case Evals some e)
      (λ x. unless_some (ended_among d x) (IsAmongBy case Evals d es) (is_among_some decide reach case Evals some d es))

  pub come_to_some : FunctionsDecide → ReachingIsDecided → (case : Case) (Evals : ℕ → List ℕ → Evaluation → Type 0) → ((at : ℕ) (column : List ℕ) → AtLeastOne (Evals at column)) → (es : Expressions) → AtLeastOne (ComeToBy case Evals es)
  come_to_some decide reach case Evals some no_more = (Ok [], refl)
  come_to_some decide reach case Evals some (one_more e es) =
      first_some (ComesToBy case Evals e) (λ r x. After x (λ d. (y : Result (List Datum) Fault) × ComeToBy case Evals es y × (r ≡ with_first d y)) r) (comes_to_some decide reach case Evals some e)
      (λ x. after_some x (λ r d. (y : Result (List Datum) Fault) × ComeToBy case Evals es y × (r ≡ with_first d y)) (λ d. some_next (ComeToBy case Evals es) (with_first d) (come_to_some decide reach case Evals some es)))

reads_none_some : (at : ℕ) (column : List ℕ) → AtLeastOne (ReadsNone at column)
reads_none_some at column = (fails RuleText at, refl)

evaluates_some : FunctionsDecide → ReachingIsDecided → RuleOrNone → (case : Case) (at : ℕ) (column : List ℕ) → AtLeastOne (Evaluates case at column)
evaluates_some decide reach says case at column = by_text (says case.model (row_text case column))
  where
    by_rule : (rule : Expression) → IsRuleText case.model (row_text case column) rule → AtLeastOne (RuleComesTo case at rule) → AtLeastOne (Evaluates case at column)
    by_rule rule is (r, comes) = (r, inr (rule, is, comes))

    by_text : ((rule : Expression) × IsRuleText case.model (row_text case column) rule) ⊎ IsNoRuleText case.model (row_text case column) → AtLeastOne (Evaluates case at column)
    by_text (inl (rule, is)) =
        by_rule rule is (some_next (ComesToBy case ReadsNone (all_at at rule)) (λ x. then x (as_truth at)) (comes_to_some decide reach case ReadsNone reads_none_some (all_at at rule)))
    by_text (inr none) = (fails RuleText at, inl (none, refl))

pub some_comes : FunctionsDecide → ReachingIsDecided → RuleOrNone → (case : Case) (e : Expression) → AtLeastOne (ComesTo case e)
some_comes decide reach says case e = comes_to_some decide reach case (Evaluates case) (evaluates_some decide reach says case) e

pub some_truth_is : FunctionsDecide → ReachingIsDecided → RuleOrNone → (case : Case) (e : Expression) → AtLeastOne (TruthIs case e)
some_truth_is decide reach says case e = some_next (ComesTo case e) (λ x. then x (truth_at (place e))) (some_comes decide reach says case e)
