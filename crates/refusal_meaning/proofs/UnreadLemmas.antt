-- Where a search for a pattern that cannot be read is refused, all comes to what it does where nothing is refused: such a search is the fault of its pattern in both.
use Rattle.std.proofs.Common.{if◌then◌else◌, ◌≡◌, inl, inr, ℕ, ◌==◌, ◌&&◌, ◌||◌, Bool, true, false, true≢false, List, [], ◌∷◌, ◌++◌, Option, Some, None, is_some, refl, sym, ap, ◌∙◌, subst}
use Rattle.std.proofs.lemmas.List.Elements.{Contains-append_left, Contains-append_right}
use Rattle.std.proofs.lemmas.Slice.Eq.{bytes_eq-Decides}
use Rattle.std.specs.List.{AllZip}
use Rattle.std.specs.Str.{bytes_eq}
use Rattle.effect_fold.specs.Verdict.{Taken}
use Rattle.effect_fold.specs.declared.fault.Cause.TheVariants.{Pattern}
use Rattle.effect_fold.specs.declared.outcome.Outcome.{Outcome}
use Rattle.effect_fold.specs.declared.verdict.Verdict.{Verdict}
use Rattle.perm_base.specs.declared.shapes.Shapes.{Shapes}
use Rattle.perm_base.specs.declared.shapes.TableId.TheVariants.{P}
use Rattle.perm_value.specs.Datum.{Datum}
use Rattle.policy_table.specs.Tables.{Fields, Policy, rows}
use Rattle.matcher_read.specs.Expression.{Callee, function, relation, unknown, Expression, text, whole, truth, request, policy, evaluated, negation, opposite, binary, among, call, Expressions, no_more, one_more, some_node, among_some}
use Rattle.matcher_read.specs.declared.tree.Function.{Function}
use Rattle.matcher_read.specs.declared.tree.Function.TheVariants as f
use Rattle.model_conf.specs.ModelText.{ModelParts}
use Rattle.regex_gate.specs.Found.{has_match, is_readable}
use Rattle.regex_gate.proofs.CallerLemmas.{answered_readable}
use Rattle.matcher_meaning.specs.Answers.{Evaluation, fails}
use Rattle.matcher_meaning.specs.Calls.{OfTwo, is_refused, matched, searched, texts_of}
use Rattle.matcher_meaning.specs.CaseCalls.{GivesForTexts}
use Rattle.matcher_meaning.specs.Cases.{Case, at_row, where_refused}
use Rattle.matcher_meaning.specs.Comes.{ComesTo, Evaluates, ReadsNone, RuleComesTo, TruthIs, all_at}
use Rattle.matcher_meaning.specs.Order.{Numbered}
use Rattle.matcher_meaning.specs.Perm.{Refusal, names_policy, refused_at, row_word, same_row}
use Rattle.matcher_meaning.specs.Verdicts.{HasOneOutcome, HasOutcome, HasOutcomesOver, IsJudged, IsVerdict, RowHasOutcome, case_of}
use Rattle.matcher_meaning.proofs.CallerLemmas.{Implies, unmoved}
use Rattle.refusal_meaning.specs.Unread.{AreUnreadable}

-- ---- no node is found by a test that finds none

abbrev nothing : Expression → Bool
nothing node = false

neither : (a b : Bool) → a ≡ false → b ≡ false → (a || b) ≡ false
neither false b no_first no_second = no_second
neither true b no_first no_second = absurd (true≢false no_first)

mutual
  none_found : (e : Expression) → some_node nothing e ≡ false
  none_found (text at bytes) = refl
  none_found (whole at n) = refl
  none_found (truth at b) = refl
  none_found (request at column path) = refl
  none_found (policy at column) = refl
  none_found (evaluated at column) = refl
  none_found (negation at e) = none_found e
  none_found (opposite at e) = none_found e
  none_found (binary at op e g) = neither (some_node nothing e) (some_node nothing g) (none_found e) (none_found g)
  none_found (among at e es) = neither (some_node nothing e) (among_some nothing es) (none_found e) (none_among es)
  none_found (call at callee es) = none_among es

  none_among : (es : Expressions) → among_some nothing es ≡ false
  none_among no_more = refl
  none_among (one_more e es) = neither (some_node nothing e) (among_some nothing es) (none_found e) (none_among es)

-- ---- one search

last_true : (a b : Bool) → (a && b) ≡ true → b ≡ true
last_true true b h = h
last_true false b h = absurd (true≢false (sym h))

-- a pattern that cannot be read has no answer
no_answer : (answer : Option Bool) → is_some answer ≡ false → answer ≡ None
no_answer None none = refl
no_answer (Some b) none = absurd (true≢false none)

unread_matched : (at : ℕ) (s pattern : List ℕ) → is_readable pattern ≡ false → matched at (has_match pattern s) ≡ fails Pattern at
unread_matched at s pattern unread = ap (matched at) (no_answer (has_match pattern s) (answered_readable pattern s ∙ unread))

test_alike : (b : Bool) (failed other : Evaluation) → (b ≡ true → other ≡ failed) → (if b then failed else other) ≡ other
test_alike true failed other same = sym (same refl)
test_alike false failed other same = refl

-- the same search where it is refused, and where nothing is
searched_alike : (at : ℕ) (pattern : List ℕ) (own : ℕ) (s t : List ℕ) → is_readable pattern ≡ false → searched (Some (at, pattern)) own s t ≡ searched None own s t
searched_alike at pattern own s t unread = test_alike (is_refused (Some (at, pattern)) own t) (fails Pattern own) (matched own (has_match t s)) same
  where
    same : is_refused (Some (at, pattern)) own t ≡ true → matched own (has_match t s) ≡ fails Pattern own
    same is = subst (λ (p : List ℕ). matched own (has_match p s) ≡ fails Pattern own) ((bytes_eq-Decides pattern t).0 (last_true (at == own) (bytes_eq pattern t) is)) (unread_matched own s pattern unread)

two_alike : (at : ℕ) (pattern : List ℕ) → is_readable pattern ≡ false → (own : ℕ) (called : Function) (s t : List ℕ) → Implies (OfTwo (Some (at, pattern)) own called s t) (OfTwo None own called s t)
two_alike at pattern unread own f.RegexMatch s t r e = e ∙ searched_alike at pattern own s t unread
two_alike at pattern unread own f.KeyMatch s t r p = p
two_alike at pattern unread own f.KeyMatch2 s t r p = p
two_alike at pattern unread own f.KeyMatch3 s t r p = p
two_alike at pattern unread own f.KeyMatch4 s t r p = p
two_alike at pattern unread own f.KeyMatch5 s t r p = p
two_alike at pattern unread own f.GlobMatch s t r p = p
two_alike at pattern unread own f.IpMatch s t r p = p
two_alike at pattern unread own f.KeyGet s t r p = p
two_alike at pattern unread own f.KeyGet2 s t r p = p
two_alike at pattern unread own f.KeyGet3 s t r p = p

-- ---- expressions

module _ (case : Case) (at : ℕ) (pattern : List ℕ) (unread : is_readable pattern ≡ false) where
  -- the case where the search is refused, and where nothing is
  abbrev held : Case
  held = where_refused case (Some (at, pattern))

  abbrev free : Case
  free = where_refused case None

  texts_alike : (own : ℕ) (callee : Callee) (ts : Option (List (List ℕ))) → Implies (GivesForTexts held own callee ts) (GivesForTexts free own callee ts)
  texts_alike own (function called) (Some (s ∷ t ∷ [])) r p = two_alike at pattern unread own called s t r p
  texts_alike own (relation number) (Some (s ∷ t ∷ [])) r p = p
  texts_alike own (unknown parts) (Some (s ∷ t ∷ [])) r p = p
  texts_alike own (function called) (Some (s ∷ t ∷ u ∷ [])) r p = p
  texts_alike own (relation number) (Some (s ∷ t ∷ u ∷ [])) r p = p
  texts_alike own (unknown parts) (Some (s ∷ t ∷ u ∷ [])) r p = p
  texts_alike own callee None r p = p
  texts_alike own callee (Some []) r p = p
  texts_alike own callee (Some (s ∷ [])) r p = p
  texts_alike own callee (Some (s ∷ t ∷ u ∷ v ∷ more)) r p = p

  rule_alike : (own : ℕ) (rule : Expression) → Implies (RuleComesTo held own rule) (RuleComesTo free own rule)
  rule_alike own rule r (x, comes, e) =
      (x, unmoved case (Some (at, pattern)) None ReadsNone ReadsNone nothing (record { evals = λ place column h s p. p; calls = λ place callee es ds h. texts_alike place callee (texts_of ds) }) (all_at own rule) (none_found (all_at own rule)) x comes, e)

  evaluates_alike : (own : ℕ) (column : List ℕ) → Implies (Evaluates held own column) (Evaluates free own column)
  evaluates_alike own column r (inl p) = inl p
  evaluates_alike own column r (inr (rule, says, comes)) = inr (rule, says, rule_alike own rule r comes)

  -- an expression comes to the same
  pub comes_alike : (e : Expression) → Implies (ComesTo held e) (ComesTo free e)
  comes_alike e =
      unmoved case (Some (at, pattern)) None (Evaluates held) (Evaluates free) nothing
      (record { evals = λ place column h. evaluates_alike place column; calls = λ place callee es ds h. texts_alike place callee (texts_of ds) }) e (none_found e)

  -- and so does a whole matcher
  pub truth_alike : (e : Expression) → Implies (TruthIs held e) (TruthIs free e)
  truth_alike e r (x, comes, is) = (x, comes_alike e x comes, is)

-- ---- verdicts

module _ (refusal : Refusal) (unread : is_readable refusal.pattern ≡ false) where
  outcome_by : (case : Case) (word : Option Bool) (outcome : Outcome) (here : Bool) → HasOutcome (where_refused case (if here then Some (refusal.at, refusal.pattern) else None)) word outcome → HasOutcome (where_refused case None) word outcome
  outcome_by case word outcome true (t, is, e) = (t, truth_alike case refusal.at refusal.pattern unread case.model.matcher t is, e)
  outcome_by case word outcome false has = has

  outcome_alike : (case : Case) (number : Option ℕ) (word : Option Bool) (outcome : Outcome) → HasOutcome (where_refused case (refused_at (Some refusal) number)) word outcome → HasOutcome (where_refused case None) word outcome
  outcome_alike case number word outcome = outcome_by case word outcome (same_row refusal.row number)

  each_alike : (case : Case) (judged : List Numbered) (taken : List Taken) → AllZip (RowHasOutcome case (Some refusal)) judged taken → AllZip (RowHasOutcome case None) judged taken
  each_alike case [] [] are = are
  each_alike case [] (t ∷ taken) are = absurd are
  each_alike case (row ∷ judged) [] are = absurd are
  each_alike case (row ∷ judged) (t ∷ taken) are =
      ((are.0.0, outcome_alike (at_row case (Some row.fields)) (Some row.number) (row_word case.model.policy row.fields) t.1 are.0.1), each_alike case judged taken are.1)

  one_alike : (case : Case) (taken : List Taken) → HasOneOutcome case (Some refusal) taken → HasOneOutcome case None taken
  one_alike case taken (outcome, has, is) = (outcome, outcome_alike (at_row case None) None (Some true) outcome has, is)

  over_alike : (case : Case) (named : Bool) (table : List Fields) (taken : List Taken) → HasOutcomesOver case (Some refusal) named table taken → HasOutcomesOver case None named table taken
  over_alike case false table taken has = one_alike case taken has
  over_alike case true [] taken has = one_alike case taken has
  over_alike case true (row ∷ others) taken (judged, order, are) = (judged, order, each_alike case judged taken are)

  pub verdict_alike : (model : ModelParts) (shapes : Shapes) (tables : Policy) (asked : List Datum) (v : Verdict) → IsVerdict model shapes tables asked (Some refusal) v → IsVerdict model shapes tables asked None v
  verdict_alike model shapes tables asked v (taken, has, is) = (taken, over_alike (case_of model shapes tables asked) (names_policy model.matcher) (rows tables P) taken has, is)

-- where all patterns that count as refused cannot be read, what is judged is the verdict
pub judged_by_unread : (model : ModelParts) (shapes : Shapes) (tables : Policy) (asked : List Datum) (IsBad : List ℕ → Type 0) (v : Verdict)
    → ((pattern : List ℕ) → IsBad pattern → is_readable pattern ≡ false) → IsJudged model shapes tables asked IsBad v → IsVerdict model shapes tables asked None v
judged_by_unread model shapes tables asked IsBad v unread (inl is) = is
judged_by_unread model shapes tables asked IsBad v unread (inr (refusal, bad, fault, is)) = verdict_alike refusal (unread refusal.pattern bad) model shapes tables asked v is

-- ---- lists of patterns

-- where none of these patterns can be read, none of a part can
pub unread_left : (some others : List (List ℕ)) → AreUnreadable (some ++ others) → AreUnreadable some
unread_left some others unread pattern has = unread pattern (Contains-append_left some others pattern has)

pub unread_right : (some others : List (List ℕ)) → AreUnreadable (some ++ others) → AreUnreadable others
unread_right some others unread pattern has = unread pattern (Contains-append_right some others pattern has)
