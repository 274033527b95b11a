-- A search that is refused leaves a verdict as it is, or the verdict is its fault.
use Rattle.std.proofs.Common.{◌≡◌, ◌⊎◌, inl, inr, ℕ, Bool, true, false, true≢false, List, [], ◌∷◌, Option, Some, None, find, if◌then◌else◌, refl, sym, ap, ◌∙◌, subst}
use Rattle.std.proofs.lemmas.Bool.{eqb-true}
use Rattle.std.specs.List.{AllZip}
use Rattle.effect_fold.specs.Verdict.{Taken, ends, verdict, verdict_at}
use Rattle.effect_fold.specs.declared.effect.Effect.{Effect}
use Rattle.effect_fold.specs.declared.fault.Cause.TheVariants.{Pattern}
use Rattle.effect_fold.specs.declared.fault.Fault.{Fault}
use Rattle.effect_fold.specs.declared.outcome.Outcome.{Outcome}
use Rattle.effect_fold.specs.declared.outcome.Outcome.TheVariants.{Failed}
use Rattle.effect_fold.specs.declared.verdict.Verdict.{Verdict}
use Rattle.matcher_read.specs.Expression.{Expression, place}
use Rattle.model_conf.specs.ModelText.{ModelParts}
use Rattle.perm_base.specs.declared.shapes.Shapes.{Shapes}
use Rattle.perm_base.specs.declared.shapes.TableId.TheVariants.{P}
use Rattle.perm_value.specs.Datum.{Datum}
use Rattle.policy_table.specs.Tables.{Fields, Policy, rows}
use Rattle.matcher_meaning.specs.Answers as answers
use Rattle.matcher_meaning.specs.Answers.{fails}
use Rattle.matcher_meaning.specs.Cases.{Case, at_row, where_refused}
use Rattle.matcher_meaning.specs.Comes.{ComesTo, TruthIs}
use Rattle.matcher_meaning.specs.Meaning.{truth_at}
use Rattle.matcher_meaning.specs.Order.{Numbered}
use Rattle.matcher_meaning.specs.Perm.{Refusal, names_policy, refusal_fault, refused_at, row_word, same_row}
use Rattle.matcher_meaning.specs.Verdicts.{HasOutcome, RowHasOutcome, HasOneOutcome, HasOutcomesOver, IsVerdict, case_of}
use Rattle.matcher_meaning.proofs.CaseRefusalLemmas.{comes_keeps}
use Rattle.matcher_meaning.proofs.RefusalLemmas.{Keeps, then_keeps}
use Rattle.matcher_meaning.proofs.VerdictLemmas.{same_taken}

pub truth_keeps : (case : Case) (at : ℕ) (pattern : List ℕ) (e : Expression) → Keeps at (TruthIs (where_refused case None) e) (TruthIs (where_refused case (Some (at, pattern))) e)
truth_keeps case at pattern e =
    then_keeps at (ComesTo (where_refused case None) e) (ComesTo (where_refused case (Some (at, pattern))) e) (λ x. answers.then x (truth_at (place e))) refl (comes_keeps case at pattern e)

same_row_is : (row number : Option ℕ) → same_row row number ≡ true → row ≡ number
same_row_is None None h = refl
same_row_is (Some n) (Some m) h = ap (λ (k : ℕ). Some k) (eqb-true n m h)
same_row_is None (Some m) h = absurd (true≢false (sym h))
same_row_is (Some n) None h = absurd (true≢false (sym h))

-- the fault of the search that is refused
abbrev fault_at : Refusal → Fault
fault_at refusal = record { cause = Pattern; at = refusal.at }

-- the outcome under its number that the refusal makes
abbrev failing : Refusal → Taken
failing refusal = (refusal.row, Failed (fault_at refusal))

-- an outcome is as it was, or is the fault, at the row of the refusal
abbrev IsKeptOutcome : Refusal → Option ℕ → Outcome → Outcome → Type 0
IsKeptOutcome refusal number was is = (is ≡ was) ⊎ ((number ≡ refusal.row) × (is ≡ Failed (fault_at refusal)))

outcome_keeps : (case : Case) (refusal : Refusal) (number : Option ℕ) (word : Option Bool) (was : Outcome) → HasOutcome (where_refused case None) word was
    → (is : Outcome) × HasOutcome (where_refused case (refused_at (Some refusal) number)) word is × IsKeptOutcome refusal number was is
outcome_keeps case refusal number word was (t, truth, e) = by (same_row refusal.row number) refl
  where
    Kept : Bool → Type 0
    Kept b = (is : Outcome) × HasOutcome (where_refused case (if b then Some (refusal.at, refusal.pattern) else None)) word is × IsKeptOutcome refusal number was is

    by_truth : refusal.row ≡ number → TruthIs (where_refused case (Some (refusal.at, refusal.pattern))) case.model.matcher t ⊎ TruthIs (where_refused case (Some (refusal.at, refusal.pattern))) case.model.matcher (fails Pattern refusal.at) → Kept true
    by_truth same (inl stays) = (was, (t, stays, e), inl refl)
    by_truth same (inr fault) = (Failed (fault_at refusal), (fails Pattern refusal.at, fault, refl), inr (sym same, refl))

    by : (b : Bool) → same_row refusal.row number ≡ b → Kept b
    by true is = by_truth (same_row_is refusal.row number is) (truth_keeps case refusal.at refusal.pattern case.model.matcher t truth)
    by false is = (was, (t, truth, e), inl refl)

-- each outcome is as it was, or is the fault of the refusal
abbrev AreKept : Refusal → List Taken → List Taken → Type 0
AreKept refusal ps qs = AllZip (λ p q. (q ≡ p) ⊎ (q ≡ failing refusal)) ps qs

kept_taken : (refusal : Refusal) (p q : Taken) → q.0 ≡ p.0 → IsKeptOutcome refusal q.0 p.1 q.1 → (q ≡ p) ⊎ (q ≡ failing refusal)
kept_taken refusal p q row (inl outcome) = inl (same_taken q p row outcome)
kept_taken refusal p q row (inr (number, outcome)) = inr (same_taken q (failing refusal) number outcome)

each_keeps : (case : Case) (refusal : Refusal) (judged : List Numbered) (ps : List Taken) → AllZip (RowHasOutcome case None) judged ps
    → (qs : List Taken) × AllZip (RowHasOutcome case (Some refusal)) judged qs × AreKept refusal ps qs
each_keeps case refusal [] [] are = ([], tt, tt)
each_keeps case refusal [] (p ∷ ps) are = absurd are
each_keeps case refusal (row ∷ judged) [] are = absurd are
each_keeps case refusal (row ∷ judged) (p ∷ ps) are =
    let one = outcome_keeps (at_row case (Some row.fields)) refusal (Some row.number) (row_word case.model.policy row.fields) p.1 are.0.1 in
    let others = each_keeps case refusal judged ps are.1 in
    let taken : Taken = (Some row.number, one.0) in
    (taken ∷ others.0, ((refl, one.1), others.1), (kept_taken refusal p taken (sym are.0.0) one.2, others.2))

one_keeps : (case : Case) (refusal : Refusal) (ps : List Taken) → HasOneOutcome case None ps → (qs : List Taken) × HasOneOutcome case (Some refusal) qs × AreKept refusal ps qs
one_keeps case refusal ps (was, has, e) =
    let one = outcome_keeps (at_row case None) refusal None (Some true) was has in
    let taken : Taken = (None, one.0) in
    (taken ∷ [], (one.0, one.1, refl), subst (λ (list : List Taken). AreKept refusal list (taken ∷ [])) (sym e) (kept_taken refusal (None, was) taken refl one.2, tt))

outcomes_keep : (case : Case) (refusal : Refusal) (named : Bool) (table : List Fields) (ps : List Taken) → HasOutcomesOver case None named table ps
    → (qs : List Taken) × HasOutcomesOver case (Some refusal) named table qs × AreKept refusal ps qs
outcomes_keep case refusal false table ps has = one_keeps case refusal ps has
outcomes_keep case refusal true [] ps has = one_keeps case refusal ps has
outcomes_keep case refusal true (row ∷ others) ps (judged, order, are) =
    let each = each_keeps case refusal judged ps are in
    (each.0, (judged, order, each.1), each.2)

-- the outcomes are as they were; or the same one ends both; or the fault of the refusal ends the new ones
abbrev EndsKept : Effect → Refusal → List Taken → List Taken → Type 0
EndsKept e refusal ps qs =
    (qs ≡ ps)
    ⊎ (((taken : Taken) × (find (ends e) ps ≡ Some taken) × (find (ends e) qs ≡ Some taken))
    ⊎ (find (ends e) qs ≡ Some (failing refusal)))

ends_keep : (e : Effect) (refusal : Refusal) (ps qs : List Taken) → AreKept refusal ps qs → EndsKept e refusal ps qs
ends_keep e refusal [] [] are = inl refl
ends_keep e refusal [] (q ∷ qs) are = absurd are
ends_keep e refusal (p ∷ ps) [] are = absurd are
ends_keep e refusal (p ∷ ps) (q ∷ qs) are = by_head (ends_keep e refusal ps qs are.1) are.0
  where
    behind : (b : Bool) → ends e p ≡ b → EndsKept e refusal ps qs → EndsKept e refusal (p ∷ ps) (p ∷ qs)
    behind true is rest = inr (inl (p, rw is refl, rw is refl))
    behind false is (inl same) = inl (ap (λ (list : List Taken). p ∷ list) same)
    behind false is (inr (inl (taken, was, now))) = inr (inl (taken, rw is was, rw is now))
    behind false is (inr (inr fault)) = inr (inr (rw is fault))

    by_head : EndsKept e refusal ps qs → (q ≡ p) ⊎ (q ≡ failing refusal) → EndsKept e refusal (p ∷ ps) (q ∷ qs)
    by_head rest (inl same) = subst (λ (head : Taken). EndsKept e refusal (p ∷ ps) (head ∷ qs)) (sym same) (behind (ends e p) refl rest)
    by_head rest (inr fault) = subst (λ (head : Taken). EndsKept e refusal (p ∷ ps) (head ∷ qs)) (sym fault) (inr (inr refl))

verdict_kept : (e : Effect) (refusal : Refusal) (ps qs : List Taken) → EndsKept e refusal ps qs → (verdict e ps ≡ verdict e qs) ⊎ (refusal_fault refusal ≡ verdict e qs)
verdict_kept e refusal ps qs (inl same) = inl (ap (verdict e) (sym same))
verdict_kept e refusal ps qs (inr (inl (taken, was, now))) = inl (ap (verdict_at e ps) was ∙ sym (ap (verdict_at e qs) now))
verdict_kept e refusal ps qs (inr (inr fault)) = inr (sym (ap (verdict_at e qs) fault))

pub is_verdict_keeps : (model : ModelParts) (shapes : Shapes) (policy : Policy) (request : List Datum) (refusal : Refusal) (v : Verdict) → IsVerdict model shapes policy request None v
    → IsVerdict model shapes policy request (Some refusal) v ⊎ IsVerdict model shapes policy request (Some refusal) (refusal_fault refusal)
is_verdict_keeps model shapes policy request refusal v (ps, has, e) =
    by (outcomes_keep (case_of model shapes policy request) refusal (names_policy model.matcher) (rows policy P) ps has)
  where
    go : (qs : List Taken) → HasOutcomesOver (case_of model shapes policy request) (Some refusal) (names_policy model.matcher) (rows policy P) qs
        → (verdict model.effect ps ≡ verdict model.effect qs) ⊎ (refusal_fault refusal ≡ verdict model.effect qs)
        → IsVerdict model shapes policy request (Some refusal) v ⊎ IsVerdict model shapes policy request (Some refusal) (refusal_fault refusal)
    go qs now (inl same) = inl (qs, now, e ∙ same)
    go qs now (inr fault) = inr (qs, now, fault)

    by : (qs : List Taken) × HasOutcomesOver (case_of model shapes policy request) (Some refusal) (names_policy model.matcher) (rows policy P) qs × AreKept refusal ps qs
        → IsVerdict model shapes policy request (Some refusal) v ⊎ IsVerdict model shapes policy request (Some refusal) (refusal_fault refusal)
    by (qs, now, kept) = go qs now (verdict_kept model.effect refusal ps qs (ends_keep model.effect refusal ps qs kept))
