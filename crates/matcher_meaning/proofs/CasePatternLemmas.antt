-- In a case where no search is refused a fault is that of a pattern only where it cannot be read.
use Rattle.std.proofs.Common.{◌≡◌, ◌⊎◌, inl, inr, ℕ, Bool, true, false, true≢false, List, [], ◌∷◌, Option, Some, None, Result, Ok, find, refl, sym, ap, ap₂, ◌∙◌, subst}
use Rattle.std.proofs.lemmas.Option.{same_Some}
use Rattle.std.specs.List.{AllZip}
use Rattle.effect_fold.specs.Verdict.{Taken, ends}
use Rattle.effect_fold.specs.declared.fault.Cause.TheVariants.{Kind, RuleText}
use Rattle.effect_fold.specs.declared.fault.Fault.{Fault}
use Rattle.effect_fold.specs.declared.outcome.Outcome.{Outcome}
use Rattle.effect_fold.specs.declared.outcome.Outcome.TheVariants.{Unmatched, Matched, Failed}
use Rattle.effect_fold.specs.declared.verdict.Verdict.{Verdict}
use Rattle.matcher_read.specs.Expression.{Callee, function, relation, unknown, Expression, text, whole, truth, request, policy, evaluated, negation, opposite, binary, among, call, Expressions, no_more, one_more, place}
use Rattle.matcher_read.specs.declared.tree.Function.TheVariants.{RegexMatch}
use Rattle.model_conf.specs.ModelText.{ModelParts}
use Rattle.perm_base.specs.declared.shapes.Shapes.{Shapes}
use Rattle.perm_base.specs.declared.shapes.TableId.TheVariants.{P}
use Rattle.perm_value.specs.Datum.{Datum}
use Rattle.perm_value.specs.Datum as datum
use Rattle.policy_table.specs.Tables.{Fields, Policy, rows}
use Rattle.matcher_meaning.specs.Answers as answers
use Rattle.matcher_meaning.specs.Answers.{Evaluation, Unless, with_first}
use Rattle.matcher_meaning.specs.Calls.{text_before, text_of, texts_of}
use Rattle.matcher_meaning.specs.CaseCalls.{GivesForTexts, Gives}
use Rattle.matcher_meaning.specs.Cases.{Case, IsLinkedBy, where_refused, at_row, asked_value, row_text}
use Rattle.matcher_meaning.specs.Comes.{ComesToBy, IsAmongBy, ComeToBy, ReadsNone, all_at, each_at, RuleComesTo, Evaluates, ComesTo, TruthIs}
use Rattle.matcher_meaning.specs.Meaning.{along, truth_at}
use Rattle.matcher_meaning.specs.Operators.{negated, opposed, as_truth, settled, joined, ended_among}
use Rattle.matcher_meaning.specs.Order.{Numbered}
use Rattle.matcher_meaning.specs.Perm.{Refusal, is_pattern, is_refusal, names_policy, refusal_fault, row_word}
use Rattle.matcher_meaning.specs.Searches.{Asks, AsksHere, AsksNothing, RuleAsks, SomePart, SomePartOf}
use Rattle.regex_gate.specs.Found.{is_readable}
use Rattle.matcher_meaning.specs.Verdicts.{HasOutcome, RowHasOutcome, HasOneOutcome, HasOutcomesOver, IsVerdict, case_of}
use Rattle.matcher_meaning.proofs.PatternLemmas.{AreClear, IsClearOutcome, AreClearOutcomes, IsClearVerdict, same_clear, then_clear, next_clear, after_clear, after_clear_of, unless_clear, first_clear, negated_clear, opposed_clear, side_clear, joined_clear, settled_clear, ended_among_clear, along_clear, whether_clear, two_clear, three_clear, truth_at_clear, outcome_of_clear, find_clear, verdict_at_clear}

-- the case where no search is refused
abbrev free : Case → Case
free case = where_refused case None

-- what is said of the place of a call for a pattern that cannot be read
abbrev BadCall : (ℕ → Type 0) → ℕ → Callee → List Datum → Type 0
BadCall Bad at callee ds = (s t : List ℕ) → callee ≡ function RegexMatch → ds ≡ datum.text s ∷ datum.text t ∷ [] → is_readable t ≡ false → Bad at

for_two_clear : (case : Case) (Bad : ℕ → Type 0) (at : ℕ) (callee : Callee) (s t : List ℕ) → (callee ≡ function RegexMatch → is_readable t ≡ false → Bad at) → AreClear Bad (GivesForTexts (free case) at callee (Some (s ∷ t ∷ [])))
for_two_clear case Bad at (function called) s t bad r p = two_clear Bad at called s t (λ is unread. bad (ap function is) unread) r p
for_two_clear case Bad at (relation number) s t bad r p = whether_clear Bad (IsLinkedBy case.shapes case.policy number s t None) r p
for_two_clear case Bad at (unknown parts) s t bad r e = same_clear Bad r (answers.fails Kind at) e (inl refl)

for_three_clear : (case : Case) (Bad : ℕ → Type 0) (at : ℕ) (callee : Callee) (s t u : List ℕ) → AreClear Bad (GivesForTexts (free case) at callee (Some (s ∷ t ∷ u ∷ [])))
for_three_clear case Bad at (function called) s t u r p = three_clear Bad at called s t u r p
for_three_clear case Bad at (relation number) s t u r p = whether_clear Bad (IsLinkedBy case.shapes case.policy number s t (Some u)) r p
for_three_clear case Bad at (unknown parts) s t u r e = same_clear Bad r (answers.fails Kind at) e (inl refl)

for_texts_clear : (case : Case) (Bad : ℕ → Type 0) (at : ℕ) (callee : Callee) (ts : Option (List (List ℕ)))
    → ((s t : List ℕ) → ts ≡ Some (s ∷ t ∷ []) → callee ≡ function RegexMatch → is_readable t ≡ false → Bad at) → AreClear Bad (GivesForTexts (free case) at callee ts)
for_texts_clear case Bad at callee (Some (s ∷ t ∷ [])) bad r p = for_two_clear case Bad at callee s t (bad s t refl) r p
for_texts_clear case Bad at callee (Some (s ∷ t ∷ u ∷ [])) bad r p = for_three_clear case Bad at callee s t u r p
for_texts_clear case Bad at callee None bad r e = same_clear Bad r (answers.fails Kind at) e (inl refl)
for_texts_clear case Bad at callee (Some []) bad r e = same_clear Bad r (answers.fails Kind at) e (inl refl)
for_texts_clear case Bad at callee (Some (s ∷ [])) bad r e = same_clear Bad r (answers.fails Kind at) e (inl refl)
for_texts_clear case Bad at callee (Some (s ∷ t ∷ u ∷ v ∷ more)) bad r e = same_clear Bad r (answers.fails Kind at) e (inl refl)

before_parts : (a : Option (List ℕ)) (bs : Option (List (List ℕ))) (t : List ℕ) (ts : List (List ℕ)) → text_before a bs ≡ Some (t ∷ ts) → (a ≡ Some t) × (bs ≡ Some ts)
before_parts (Some x) (Some xs) t ts e = (cc, cc)
before_parts (Some x) None t ts e = absurd cc
before_parts None bs t ts e = absurd cc

before_some : (a : Option (List ℕ)) (bs : Option (List (List ℕ))) → text_before a bs ≡ Some [] → ⊥
before_some (Some x) (Some xs) e = absurd cc
before_some (Some x) None e = absurd cc
before_some None bs e = absurd cc

text_is : (d : Datum) (t : List ℕ) → text_of d ≡ Some t → d ≡ datum.text t
text_is (datum.text x) t e = ap (λ (y : List ℕ). datum.text y) (same_Some x t e)
text_is _ t e = absurd cc

none_left : (ds : List Datum) → texts_of ds ≡ Some [] → ds ≡ []
none_left [] e = refl
none_left (d ∷ ds) e = absurd (before_some (text_of d) (texts_of ds) e)

one_text : (ds : List Datum) (t : List ℕ) → texts_of ds ≡ Some (t ∷ []) → ds ≡ datum.text t ∷ []
one_text [] t e = absurd cc
one_text (d ∷ ds) t e =
    let parts = before_parts (text_of d) (texts_of ds) t [] e in
    ap₂ (λ (x : Datum) (xs : List Datum). x ∷ xs) (text_is d t parts.0) (none_left ds parts.1)

-- values that are two texts
two_texts : (ds : List Datum) (s t : List ℕ) → texts_of ds ≡ Some (s ∷ t ∷ []) → ds ≡ datum.text s ∷ datum.text t ∷ []
two_texts [] s t e = absurd cc
two_texts (d ∷ ds) s t e =
    let parts = before_parts (text_of d) (texts_of ds) s (t ∷ []) e in
    ap₂ (λ (x : Datum) (xs : List Datum). x ∷ xs) (text_is d s parts.0) (one_text ds t parts.1)

gives_clear : (case : Case) (Bad : ℕ → Type 0) (at : ℕ) (callee : Callee) (ds : List Datum) → BadCall Bad at callee ds → AreClear Bad (Gives (free case) at callee ds)
gives_clear case Bad at callee ds bad = for_texts_clear case Bad at callee (texts_of ds) (λ s t two is unread. bad s t is (two_texts ds s t two) unread)

-- no `eval` comes to the fault of a pattern, unless its rule asks for one that cannot be read
abbrev EvalsClear : (Bad : ℕ → Type 0) (Evals : ℕ → List ℕ → Evaluation → Type 0) (EvalAsks : ℕ → List ℕ → List ℕ → Type 0) → Type 0
EvalsClear Bad Evals EvalAsks = (at : ℕ) (column : List ℕ) → ((pattern : List ℕ) → EvalAsks at column pattern → is_readable pattern ≡ false → Bad at) → AreClear Bad (Evals at column)

-- this is said of each place at which the expression asks for a pattern that cannot be read
abbrev BadIn : Case → (Bad : ℕ → Type 0) → (Evals : ℕ → List ℕ → Evaluation → Type 0) → (EvalAsks : ℕ → List ℕ → List ℕ → Type 0) → Expression → Type 0
BadIn case Bad Evals EvalAsks e = (at : ℕ) (pattern : List ℕ) → SomePart (AsksHere (free case) Evals EvalAsks at pattern) e → is_readable pattern ≡ false → Bad at

abbrev BadInSome : Case → (Bad : ℕ → Type 0) → (Evals : ℕ → List ℕ → Evaluation → Type 0) → (EvalAsks : ℕ → List ℕ → List ℕ → Type 0) → Expressions → Type 0
BadInSome case Bad Evals EvalAsks es = (at : ℕ) (pattern : List ℕ) → SomePartOf (AsksHere (free case) Evals EvalAsks at pattern) es → is_readable pattern ≡ false → Bad at

-- a call whose arguments came to these values
bad_call : (case : Case) (Bad : ℕ → Type 0) (Evals : ℕ → List ℕ → Evaluation → Type 0) (EvalAsks : ℕ → List ℕ → List ℕ → Type 0) (at : ℕ) (callee : Callee) (es : Expressions) (ds : List Datum)
    → BadIn case Bad Evals EvalAsks (call at callee es) → ComeToBy (free case) Evals es (Ok ds) → BadCall Bad at callee ds
bad_call case Bad Evals EvalAsks at callee es ds bad come s t is two unread =
    let asks : AsksHere (free case) Evals EvalAsks at t (call at (function RegexMatch) es) = (refl, (s, subst (λ (values : List Datum). ComeToBy (free case) Evals es (Ok values)) two come)) in
    bad at t (inl (subst (λ (called : Callee). AsksHere (free case) Evals EvalAsks at t (call at called es)) (sym is) asks)) unread

mutual
  pub comes_to_clear : (case : Case) (Bad : ℕ → Type 0) (Evals : ℕ → List ℕ → Evaluation → Type 0) (EvalAsks : ℕ → List ℕ → List ℕ → Type 0) → EvalsClear Bad Evals EvalAsks
      → (e : Expression) → BadIn case Bad Evals EvalAsks e → AreClear Bad (ComesToBy (free case) Evals e)
  comes_to_clear case Bad Evals EvalAsks evals (text at bytes) bad r e = same_clear Bad r (Ok (datum.text bytes)) e tt
  comes_to_clear case Bad Evals EvalAsks evals (whole at n) bad r e = same_clear Bad r (Ok (datum.whole n)) e tt
  comes_to_clear case Bad Evals EvalAsks evals (truth at b) bad r e = same_clear Bad r (Ok (datum.truth b)) e tt
  comes_to_clear case Bad Evals EvalAsks evals (request at column path) bad r e = same_clear Bad r (along at (asked_value case column) path) e (along_clear Bad at (asked_value case column) path)
  comes_to_clear case Bad Evals EvalAsks evals (policy at column) bad r e = same_clear Bad r (Ok (datum.text (row_text case column))) e tt
  comes_to_clear case Bad Evals EvalAsks evals (evaluated at column) bad r p = evals at column (λ pattern asks unread. bad at pattern (refl, asks) unread) r p
  comes_to_clear case Bad Evals EvalAsks evals (negation at e) bad r p =
      next_clear Bad (ComesToBy (free case) Evals e) (λ x. answers.then x (negated at)) (comes_to_clear case Bad Evals EvalAsks evals e (λ place pattern part. bad place pattern (inr part)))
      (λ x clear. then_clear Bad x (negated at) clear (negated_clear Bad at)) r p
  comes_to_clear case Bad Evals EvalAsks evals (opposite at e) bad r p =
      next_clear Bad (ComesToBy (free case) Evals e) (λ x. answers.then x (opposed at)) (comes_to_clear case Bad Evals EvalAsks evals e (λ place pattern part. bad place pattern (inr part)))
      (λ x clear. then_clear Bad x (opposed at) clear (opposed_clear Bad at)) r p
  comes_to_clear case Bad Evals EvalAsks evals (binary at o e g) bad r p =
      after_clear Bad (ComesToBy (free case) Evals e) (λ d r. Unless (settled at o d) ((y : Evaluation) × ComesToBy (free case) Evals g y × (r ≡ answers.then y (joined at o d))) r)
      (comes_to_clear case Bad Evals EvalAsks evals e (λ place pattern part. bad place pattern (inr (inl part))))
      (λ d. unless_clear Bad (settled at o d) (λ r. (y : Evaluation) × ComesToBy (free case) Evals g y × (r ≡ answers.then y (joined at o d))) (settled_clear Bad at o d)
      (next_clear Bad (ComesToBy (free case) Evals g) (λ y. answers.then y (joined at o d)) (comes_to_clear case Bad Evals EvalAsks evals g (λ place pattern part. bad place pattern (inr (inr part))))
      (λ y clear. then_clear Bad y (joined at o d) clear (joined_clear Bad at o d)))) r p
  comes_to_clear case Bad Evals EvalAsks evals (among at e es) bad r p =
      after_clear Bad (ComesToBy (free case) Evals e) (λ d r. IsAmongBy (free case) Evals d es r) (comes_to_clear case Bad Evals EvalAsks evals e (λ place pattern part. bad place pattern (inr (inl part))))
      (λ d. is_among_clear case Bad Evals EvalAsks evals d es (λ place pattern part. bad place pattern (inr (inr part)))) r p
  comes_to_clear case Bad Evals EvalAsks evals (call at callee es) bad r p =
      after_clear_of Bad (ComeToBy (free case) Evals es) (λ ds r. Gives (free case) at callee ds r) (come_to_clear case Bad Evals EvalAsks evals es (λ place pattern part. bad place pattern (inr part)))
      (λ ds come. gives_clear case Bad at callee ds (bad_call case Bad Evals EvalAsks at callee es ds bad come)) r p

  pub is_among_clear : (case : Case) (Bad : ℕ → Type 0) (Evals : ℕ → List ℕ → Evaluation → Type 0) (EvalAsks : ℕ → List ℕ → List ℕ → Type 0) → EvalsClear Bad Evals EvalAsks
      → (d : Datum) (es : Expressions) → BadInSome case Bad Evals EvalAsks es → AreClear Bad (IsAmongBy (free case) Evals d es)
  is_among_clear case Bad Evals EvalAsks evals d no_more bad r e = same_clear Bad r (Ok (datum.truth false)) e tt
  is_among_clear case Bad Evals EvalAsks evals d (one_more e es) bad r (x, p, unless) =
      unless_clear Bad (ended_among d x) (IsAmongBy (free case) Evals d es) (ended_among_clear Bad d x (comes_to_clear case Bad Evals EvalAsks evals e (λ place pattern part. bad place pattern (inl part)) x p))
      (is_among_clear case Bad Evals EvalAsks evals d es (λ place pattern part. bad place pattern (inr part))) r unless

  pub come_to_clear : (case : Case) (Bad : ℕ → Type 0) (Evals : ℕ → List ℕ → Evaluation → Type 0) (EvalAsks : ℕ → List ℕ → List ℕ → Type 0) → EvalsClear Bad Evals EvalAsks
      → (es : Expressions) → BadInSome case Bad Evals EvalAsks es → AreClear Bad (ComeToBy (free case) Evals es)
  come_to_clear case Bad Evals EvalAsks evals no_more bad r e = same_clear Bad r (Ok []) e tt
  come_to_clear case Bad Evals EvalAsks evals (one_more e es) bad r p =
      after_clear Bad (ComesToBy (free case) Evals e) (λ d r. (y : Result (List Datum) Fault) × ComeToBy (free case) Evals es y × (r ≡ with_first d y))
      (comes_to_clear case Bad Evals EvalAsks evals e (λ place pattern part. bad place pattern (inl part)))
      (λ d. next_clear Bad (ComeToBy (free case) Evals es) (with_first d) (come_to_clear case Bad Evals EvalAsks evals es (λ place pattern part. bad place pattern (inr part))) (first_clear Bad d)) r p

reads_none_clear : (Bad : ℕ → Type 0) → EvalsClear Bad ReadsNone AsksNothing
reads_none_clear Bad at column bad r e = same_clear Bad r (answers.fails RuleText at) e (inl refl)

-- a rule at the place of its `eval`: whatever place of it asks for a pattern, it is said of the `eval`'s
rule_clear : (case : Case) (Bad : ℕ → Type 0) (at : ℕ) (rule : Expression) → BadIn case Bad ReadsNone AsksNothing (all_at at rule) → AreClear Bad (RuleComesTo (free case) at rule)
rule_clear case Bad at rule bad =
    next_clear Bad (ComesToBy (free case) ReadsNone (all_at at rule)) (λ x. answers.then x (as_truth at)) (comes_to_clear case Bad ReadsNone AsksNothing (reads_none_clear Bad) (all_at at rule) bad)
    (λ x clear. then_clear Bad x (as_truth at) clear (side_clear Bad at))

call_there : (case : Case) (at place : ℕ) (pattern : List ℕ) (callee : Callee) (es : Expressions) → AsksHere case ReadsNone AsksNothing place pattern (call at callee es) → at ≡ place
call_there case at place pattern (function RegexMatch) es asks = asks.0
call_there case at place pattern _ es asks = absurd asks

-- what asks in an expression that was moved to a place asks there
mutual
  asks_there : (case : Case) (at place : ℕ) (pattern : List ℕ) (e : Expression) → SomePart (AsksHere case ReadsNone AsksNothing place pattern) (all_at at e) → at ≡ place
  asks_there case at place pattern (text own bytes) asks = absurd asks
  asks_there case at place pattern (whole own n) asks = absurd asks
  asks_there case at place pattern (truth own b) asks = absurd asks
  asks_there case at place pattern (request own column path) asks = absurd asks
  asks_there case at place pattern (policy own column) asks = absurd asks
  asks_there case at place pattern (evaluated own column) asks = asks.0
  asks_there case at place pattern (negation own e) (inl none) = absurd none
  asks_there case at place pattern (negation own e) (inr asks) = asks_there case at place pattern e asks
  asks_there case at place pattern (opposite own e) (inl none) = absurd none
  asks_there case at place pattern (opposite own e) (inr asks) = asks_there case at place pattern e asks
  asks_there case at place pattern (binary own op e g) (inl none) = absurd none
  asks_there case at place pattern (binary own op e g) (inr (inl asks)) = asks_there case at place pattern e asks
  asks_there case at place pattern (binary own op e g) (inr (inr asks)) = asks_there case at place pattern g asks
  asks_there case at place pattern (among own e es) (inl none) = absurd none
  asks_there case at place pattern (among own e es) (inr (inl asks)) = asks_there case at place pattern e asks
  asks_there case at place pattern (among own e es) (inr (inr asks)) = some_asks_there case at place pattern es asks
  asks_there case at place pattern (call own callee es) (inl asks) = call_there case at place pattern callee (each_at at es) asks
  asks_there case at place pattern (call own callee es) (inr asks) = some_asks_there case at place pattern es asks

  some_asks_there : (case : Case) (at place : ℕ) (pattern : List ℕ) (es : Expressions) → SomePartOf (AsksHere case ReadsNone AsksNothing place pattern) (each_at at es) → at ≡ place
  some_asks_there case at place pattern no_more asks = absurd asks
  some_asks_there case at place pattern (one_more e es) (inl asks) = asks_there case at place pattern e asks
  some_asks_there case at place pattern (one_more e es) (inr asks) = some_asks_there case at place pattern es asks

evaluates_clear : (case : Case) (Bad : ℕ → Type 0) → EvalsClear Bad (Evaluates (free case)) (RuleAsks (free case))
evaluates_clear case Bad at column bad r (inl p) = same_clear Bad r (answers.fails RuleText at) p.1 (inl refl)
evaluates_clear case Bad at column bad r (inr p) =
    rule_clear case Bad at p.0 (λ place pattern asks unread.
    let same : at ≡ place = asks_there (free case) at place pattern p.0 asks in
    let own = subst (λ (n : ℕ). SomePart (AsksHere (free case) ReadsNone AsksNothing n pattern) (all_at at p.0)) (sym same) asks in
    subst Bad same (bad pattern (p.0, p.1, own) unread)) r p.2

-- the places at which a pattern is asked for that cannot be read
abbrev pub AsksUnread : Case → Expression → ℕ → Type 0
AsksUnread case e at = (pattern : List ℕ) × (is_readable pattern ≡ false) × Asks case e at pattern

pub comes_clear : (case : Case) (e : Expression) → AreClear (AsksUnread (free case) e) (ComesTo (free case) e)
comes_clear case e =
    comes_to_clear case (AsksUnread (free case) e) (Evaluates (free case)) (RuleAsks (free case)) (evaluates_clear case (AsksUnread (free case) e)) e (λ at pattern asks unread. (pattern, unread, asks))

pub truth_is_clear : (case : Case) (e : Expression) → AreClear (AsksUnread (free case) e) (TruthIs (free case) e)
truth_is_clear case e =
    next_clear (AsksUnread (free case) e) (ComesTo (free case) e) (λ x. answers.then x (truth_at (place e))) (comes_clear case e)
    (λ x clear. then_clear (AsksUnread (free case) e) x (truth_at (place e)) clear (truth_at_clear (AsksUnread (free case) e) (place e)))

-- a fault of a pattern is at such a place
pub unread_fault : (Bad : ℕ → Type 0) (failed : Fault) → (is_pattern failed.cause ≡ false) ⊎ Bad failed.at → is_pattern failed.cause ≡ true → Bad failed.at
unread_fault Bad failed (inl other) is = absurd (true≢false (sym is ∙ other))
unread_fault Bad failed (inr bad) is = bad

-- at one of these rows, or without one, the model's matcher asks at a place for a pattern that cannot be read
abbrev AsksAt : Case → Option ℕ → ℕ → Type 0
AsksAt case number at = (row : Option Fields) × AsksUnread (free (at_row case row)) case.model.matcher at

weaker_outcome : (Bad Worse : ℕ → Type 0) (outcome : Outcome) → ((at : ℕ) → Bad at → Worse at) → IsClearOutcome Bad outcome → IsClearOutcome Worse outcome
weaker_outcome Bad Worse Unmatched more clear = tt
weaker_outcome Bad Worse (Matched allow) more clear = tt
weaker_outcome Bad Worse (Failed fault) more (inl clear) = inl clear
weaker_outcome Bad Worse (Failed fault) more (inr bad) = inr (more fault.at bad)

has_outcome_clear : (case : Case) (number : Option ℕ) (row : Option Fields) (word : Option Bool) (outcome : Outcome) → HasOutcome (free (at_row case row)) word outcome → IsClearOutcome (AsksAt case number) outcome
has_outcome_clear case number row word outcome (t, is, e) =
    weaker_outcome (AsksUnread (free (at_row case row)) case.model.matcher) (AsksAt case number) outcome (λ at asks. (row, asks))
    (subst (IsClearOutcome (AsksUnread (free (at_row case row)) case.model.matcher)) (sym e)
    (outcome_of_clear (AsksUnread (free (at_row case row)) case.model.matcher) t word (truth_is_clear (at_row case row) case.model.matcher t is)))

each_clear : (case : Case) (judged : List Numbered) (outcomes : List Taken) → AllZip (RowHasOutcome case None) judged outcomes → AreClearOutcomes (AsksAt case) outcomes
each_clear case [] [] p = tt
each_clear case [] (taken ∷ others) p = absurd p
each_clear case (row ∷ judged) [] p = absurd p
each_clear case (row ∷ judged) (taken ∷ others) p =
    (has_outcome_clear case taken.0 (Some row.fields) (row_word case.model.policy row.fields) taken.1 p.0.1, each_clear case judged others p.1)

one_outcome_clear : (case : Case) (outcomes : List Taken) → HasOneOutcome case None outcomes → AreClearOutcomes (AsksAt case) outcomes
one_outcome_clear case outcomes (outcome, is, e) = subst (AreClearOutcomes (AsksAt case)) (sym e) (has_outcome_clear case None None (Some true) outcome is, tt)

outcomes_over_clear : (case : Case) (named : Bool) (table : List Fields) (outcomes : List Taken) → HasOutcomesOver case None named table outcomes → AreClearOutcomes (AsksAt case) outcomes
outcomes_over_clear case false table outcomes p = one_outcome_clear case outcomes p
outcomes_over_clear case true [] outcomes p = one_outcome_clear case outcomes p
outcomes_over_clear case true (row ∷ others) outcomes p = each_clear case p.0 outcomes p.2

is_verdict_clear : (model : ModelParts) (shapes : Shapes) (tables : Policy) (asked : List Datum) (v : Verdict) → IsVerdict model shapes tables asked None v → IsClearVerdict (AsksAt (case_of model shapes tables asked)) v
is_verdict_clear model shapes tables asked v (outcomes, are, e) =
    subst (IsClearVerdict (AsksAt (case_of model shapes tables asked))) (sym e)
    (verdict_at_clear (AsksAt (case_of model shapes tables asked)) model.effect outcomes (find (ends model.effect) outcomes)
    (find_clear (AsksAt (case_of model shapes tables asked)) (ends model.effect) outcomes (outcomes_over_clear (case_of model shapes tables asked) (names_policy model.matcher) (rows tables P) outcomes are)))

pub unread_verdict : (model : ModelParts) (shapes : Shapes) (tables : Policy) (asked : List Datum) (v : Verdict) → IsVerdict model shapes tables asked None v → is_refusal v ≡ true
    → (refusal : Refusal) × (v ≡ refusal_fault refusal) × (is_readable refusal.pattern ≡ false) × ((row : Option Fields) × Asks (at_row (case_of model shapes tables asked) row) model.matcher refusal.at refusal.pattern)
unread_verdict model shapes tables asked v is refused = go (is_verdict_clear model shapes tables asked v is)
  where
    go : IsClearVerdict (AsksAt (case_of model shapes tables asked)) v
        → (refusal : Refusal) × (v ≡ refusal_fault refusal) × (is_readable refusal.pattern ≡ false) × ((row : Option Fields) × Asks (at_row (case_of model shapes tables asked) row) model.matcher refusal.at refusal.pattern)
    go (inl none) = absurd (true≢false (sym refused ∙ none))
    go (inr (number, at, (row, (pattern, unread, asks)), fault)) = (record { row = number; at = at; pattern = pattern }, fault, unread, (row, asks))
