-- A search that is refused leaves an answer as it is, or is its fault.
use Rattle.std.proofs.Common.{◌≡◌, ◌⊎◌, inl, inr, ℕ, List, [], ◌∷◌, Option, Some, None, Result, refl}
use Rattle.effect_fold.specs.declared.fault.Cause.TheVariants.{Pattern}
use Rattle.effect_fold.specs.declared.fault.Fault.{Fault}
use Rattle.matcher_read.specs.Expression.{Callee, function, relation, unknown, Expression, text, whole, truth, request, policy, evaluated, negation, opposite, binary, among, call, Expressions, no_more, one_more}
use Rattle.perm_value.specs.Datum.{Datum}
use Rattle.matcher_meaning.specs.Answers as answers
use Rattle.matcher_meaning.specs.Answers.{Evaluation, fails, Unless, with_first}
use Rattle.matcher_meaning.specs.Calls.{texts_of}
use Rattle.matcher_meaning.specs.CaseCalls.{GivesForTexts, Gives}
use Rattle.matcher_meaning.specs.Cases.{Case, where_refused}
use Rattle.matcher_meaning.specs.Comes.{ComesToBy, IsAmongBy, ComeToBy, ReadsNone, all_at, RuleComesTo, Evaluates, ComesTo}
use Rattle.matcher_meaning.specs.Operators.{negated, opposed, as_truth, settled, joined}
use Rattle.matcher_meaning.proofs.RefusalLemmas.{Keeps, then_keeps, after_keeps, unless_keeps, two_keeps, found_keeps}

for_texts_keep : (case : Case) (at : ℕ) (pattern : List ℕ) (place : ℕ) (callee : Callee) (ts : Option (List (List ℕ)))
    → Keeps at (GivesForTexts (where_refused case None) place callee ts) (GivesForTexts (where_refused case (Some (at, pattern))) place callee ts)
for_texts_keep case at pattern place (function called) (Some (s ∷ t ∷ [])) r p = two_keeps at pattern place called s t r p
for_texts_keep case at pattern place (relation number) (Some (s ∷ t ∷ [])) r p = inl p
for_texts_keep case at pattern place (unknown parts) (Some (s ∷ t ∷ [])) r p = inl p
for_texts_keep case at pattern place (function called) (Some (s ∷ t ∷ u ∷ [])) r p = inl p
for_texts_keep case at pattern place (relation number) (Some (s ∷ t ∷ u ∷ [])) r p = inl p
for_texts_keep case at pattern place (unknown parts) (Some (s ∷ t ∷ u ∷ [])) r p = inl p
for_texts_keep case at pattern place callee None r p = inl p
for_texts_keep case at pattern place callee (Some []) r p = inl p
for_texts_keep case at pattern place callee (Some (s ∷ [])) r p = inl p
for_texts_keep case at pattern place callee (Some (s ∷ t ∷ u ∷ v ∷ more)) r p = inl p

pub gives_keep : (case : Case) (at : ℕ) (pattern : List ℕ) (place : ℕ) (callee : Callee) (ds : List Datum)
    → Keeps at (Gives (where_refused case None) place callee ds) (Gives (where_refused case (Some (at, pattern))) place callee ds)
gives_keep case at pattern place callee ds = for_texts_keep case at pattern place callee (texts_of ds)

-- the case where no search is refused, and where this one is
abbrev free : Case → Case
free case = where_refused case None

abbrev held : Case → ℕ → List ℕ → Case
held case at pattern = where_refused case (Some (at, pattern))

-- whatever an `eval` comes to, if that keeps what it says
abbrev EvalsKeep : ℕ → (Evals Others : ℕ → List ℕ → Evaluation → Type 0) → Type 0
EvalsKeep at Evals Others = (place : ℕ) (column : List ℕ) → Keeps at (Evals place column) (Others place column)

mutual
  pub comes_to_keeps : (case : Case) (at : ℕ) (pattern : List ℕ) (Evals Others : ℕ → List ℕ → Evaluation → Type 0) → EvalsKeep at Evals Others
      → (e : Expression) → Keeps at (ComesToBy (free case) Evals e) (ComesToBy (held case at pattern) Others e)
  comes_to_keeps case at pattern Evals Others keep (text place bytes) r p = inl p
  comes_to_keeps case at pattern Evals Others keep (whole place n) r p = inl p
  comes_to_keeps case at pattern Evals Others keep (truth place b) r p = inl p
  comes_to_keeps case at pattern Evals Others keep (request place column path) r p = inl p
  comes_to_keeps case at pattern Evals Others keep (policy place column) r p = inl p
  comes_to_keeps case at pattern Evals Others keep (evaluated place column) r p = keep place column r p
  comes_to_keeps case at pattern Evals Others keep (negation place e) r p =
      then_keeps at (ComesToBy (free case) Evals e) (ComesToBy (held case at pattern) Others e) (λ x. answers.then x (negated place)) refl (comes_to_keeps case at pattern Evals Others keep e) r p
  comes_to_keeps case at pattern Evals Others keep (opposite place e) r p =
      then_keeps at (ComesToBy (free case) Evals e) (ComesToBy (held case at pattern) Others e) (λ x. answers.then x (opposed place)) refl (comes_to_keeps case at pattern Evals Others keep e) r p
  comes_to_keeps case at pattern Evals Others keep (binary place op e g) r p =
      after_keeps at (ComesToBy (free case) Evals e) (ComesToBy (held case at pattern) Others e)
      (λ d r. Unless (settled place op d) ((y : Evaluation) × ComesToBy (free case) Evals g y × (r ≡ answers.then y (joined place op d))) r)
      (λ d r. Unless (settled place op d) ((y : Evaluation) × ComesToBy (held case at pattern) Others g y × (r ≡ answers.then y (joined place op d))) r)
      (comes_to_keeps case at pattern Evals Others keep e)
      (λ d. unless_keeps at (settled place op d) (λ r. (y : Evaluation) × ComesToBy (free case) Evals g y × (r ≡ answers.then y (joined place op d))) (λ r. (y : Evaluation) × ComesToBy (held case at pattern) Others g y × (r ≡ answers.then y (joined place op d)))
      (then_keeps at (ComesToBy (free case) Evals g) (ComesToBy (held case at pattern) Others g) (λ y. answers.then y (joined place op d)) refl (comes_to_keeps case at pattern Evals Others keep g))) r p
  comes_to_keeps case at pattern Evals Others keep (among place e es) r p =
      after_keeps at (ComesToBy (free case) Evals e) (ComesToBy (held case at pattern) Others e) (λ d r. IsAmongBy (free case) Evals d es r) (λ d r. IsAmongBy (held case at pattern) Others d es r)
      (comes_to_keeps case at pattern Evals Others keep e) (λ d. is_among_keeps case at pattern Evals Others keep d es) r p
  comes_to_keeps case at pattern Evals Others keep (call place callee es) r p =
      after_keeps at (ComeToBy (free case) Evals es) (ComeToBy (held case at pattern) Others es) (λ ds r. Gives (free case) place callee ds r) (λ ds r. Gives (held case at pattern) place callee ds r)
      (come_to_keep case at pattern Evals Others keep es) (λ ds. gives_keep case at pattern place callee ds) r p

  pub is_among_keeps : (case : Case) (at : ℕ) (pattern : List ℕ) (Evals Others : ℕ → List ℕ → Evaluation → Type 0) → EvalsKeep at Evals Others
      → (d : Datum) (es : Expressions) → Keeps at (IsAmongBy (free case) Evals d es) (IsAmongBy (held case at pattern) Others d es)
  is_among_keeps case at pattern Evals Others keep d no_more r p = inl p
  is_among_keeps case at pattern Evals Others keep d (one_more e es) r p =
      found_keeps at (ComesToBy (free case) Evals e) (ComesToBy (held case at pattern) Others e) (IsAmongBy (free case) Evals d es) (IsAmongBy (held case at pattern) Others d es) d
      (comes_to_keeps case at pattern Evals Others keep e) (is_among_keeps case at pattern Evals Others keep d es) r p

  pub come_to_keep : (case : Case) (at : ℕ) (pattern : List ℕ) (Evals Others : ℕ → List ℕ → Evaluation → Type 0) → EvalsKeep at Evals Others
      → (es : Expressions) → Keeps at (ComeToBy (free case) Evals es) (ComeToBy (held case at pattern) Others es)
  come_to_keep case at pattern Evals Others keep no_more r p = inl p
  come_to_keep case at pattern Evals Others keep (one_more e es) r p =
      after_keeps at (ComesToBy (free case) Evals e) (ComesToBy (held case at pattern) Others e)
      (λ d r. (y : Result (List Datum) Fault) × ComeToBy (free case) Evals es y × (r ≡ with_first d y))
      (λ d r. (y : Result (List Datum) Fault) × ComeToBy (held case at pattern) Others es y × (r ≡ with_first d y))
      (comes_to_keeps case at pattern Evals Others keep e)
      (λ d. then_keeps at (ComeToBy (free case) Evals es) (ComeToBy (held case at pattern) Others es) (with_first d) refl (come_to_keep case at pattern Evals Others keep es)) r p

reads_none_keeps : (at : ℕ) → EvalsKeep at ReadsNone ReadsNone
reads_none_keeps at place column r p = inl p

rule_keeps : (case : Case) (at : ℕ) (pattern : List ℕ) (place : ℕ) (rule : Expression) → Keeps at (RuleComesTo (free case) place rule) (RuleComesTo (held case at pattern) place rule)
rule_keeps case at pattern place rule =
    then_keeps at (ComesToBy (free case) ReadsNone (all_at place rule)) (ComesToBy (held case at pattern) ReadsNone (all_at place rule)) (λ x. answers.then x (as_truth place)) refl
    (comes_to_keeps case at pattern ReadsNone ReadsNone (reads_none_keeps at) (all_at place rule))

pub evaluates_keeps : (case : Case) (at : ℕ) (pattern : List ℕ) → EvalsKeep at (Evaluates (free case)) (Evaluates (held case at pattern))
evaluates_keeps case at pattern place column r (inl p) = inl (inl p)
evaluates_keeps case at pattern place column r (inr p) = go (rule_keeps case at pattern place p.0 r p.2)
  where
    go : RuleComesTo (held case at pattern) place p.0 r ⊎ RuleComesTo (held case at pattern) place p.0 (fails Pattern at)
        → Evaluates (held case at pattern) place column r ⊎ Evaluates (held case at pattern) place column (fails Pattern at)
    go (inl comes) = inl (inr (p.0, p.1, comes))
    go (inr comes) = inr (inr (p.0, p.1, comes))

pub comes_keeps : (case : Case) (at : ℕ) (pattern : List ℕ) (e : Expression) → Keeps at (ComesTo (free case) e) (ComesTo (held case at pattern) e)
comes_keeps case at pattern e = comes_to_keeps case at pattern (Evaluates (free case)) (Evaluates (held case at pattern)) (evaluates_keeps case at pattern) e
