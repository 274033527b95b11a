-- The verdict of a fold over the outcomes of rows.
use Rattle.std.proofs.Common.{◌≡◌, inl, inr, ℕ, ◌<◌, ◌==◌, Bool, true, false, true≢false, List, [], ◌∷◌, ◌++◌, Option, Some, None, refl, sym, ◌∙◌, subst, arith, append_assoc, append-nil}
use Rattle.std.specs.List.{AllByRecursion, AllZip}
use Rattle.std.proofs.lemmas.Bool.{eq-eqb, ne_eqb}
use Rattle.effect_fold.specs.Folds.{HasTaken, is_settled}
use Rattle.effect_fold.specs.Helps.Progress.{Progress}
use Rattle.effect_fold.specs.Verdict.{Taken, settled_by, verdict}
use Rattle.effect_fold.proofs.CallerLemmas.{ending_settles, ending_verdict, settled_stays}
use Rattle.effect_fold.specs.declared.effect.Effect.{Effect}
use Rattle.effect_fold.specs.declared.fault.Cause.TheVariants.{Pattern}
use Rattle.effect_fold.specs.declared.fault.Fault.{Fault}
use Rattle.effect_fold.specs.declared.outcome.Outcome.{Outcome}
use Rattle.effect_fold.specs.declared.outcome.Outcome.TheVariants.{Failed}
use Rattle.effect_fold.specs.declared.verdict.Verdict.{Verdict}
use Rattle.policy_table.specs.Tables.{Fields}
use Rattle.matcher_meaning.proofs.CallerLemmas.{SomeTruthAt, each_some, row_outcome_some}
use Rattle.matcher_meaning.specs.Cases.{Case}
use Rattle.matcher_meaning.specs.Order.{Numbered, numbered_from}
use Rattle.matcher_meaning.specs.Perm.{Refusal}
use Rattle.matcher_meaning.specs.Verdicts.{HasOneOutcome, RowHasOutcome}
use Rattle.decision.proofs.CoverLemmas.{numbers_before}
use Rattle.decision.proofs.RowLemmas.{zip_append}
use Rattle.decision.specs.Helps.Covers.{Covers}
use Rattle.decision.specs.Helps.Outcomes.{ComesTo, IsJudgedOn, OutcomeIs}

-- these rows come to these outcomes, where a search is refused or none
abbrev pub AreOutcomes : Case → Option Refusal → List Numbered → List Taken → Type 0
AreOutcomes case refused rows outcomes = AllZip (RowHasOutcome case refused) rows outcomes

-- what a fold says of one outcome more, of whether it is settled then, and of its end
abbrev pub Takes : Progress → Progress → Option ℕ → Outcome → Type 0
Takes fold next row outcome = (e : Effect) (outcomes : List Taken) → HasTaken fold e outcomes → HasTaken next e (outcomes ++ (row, outcome) ∷ [])

abbrev pub TellsSettled : Progress → Option ℕ → Outcome → Bool → Type 0
TellsSettled fold row outcome told = (e : Effect) (outcomes : List Taken) → HasTaken fold e outcomes → told ≡ is_settled e (outcomes ++ (row, outcome) ∷ [])

abbrev pub EndsIn : Progress → Verdict → Type 0
EndsIn fold v = (e : Effect) (outcomes : List Taken) → HasTaken fold e outcomes → v ≡ verdict e outcomes

-- how far a fold has come, where these rows are left of all
pub record IsFolded (case : Case) (all rest : List Numbered) (fold : Progress) : Type 0 where
  pub seen : List Numbered
  pub outcomes : List Taken
  pub parts : all ≡ seen ++ rest
  pub are : AreOutcomes case None seen outcomes
  pub took : HasTaken fold case.model.effect outcomes
  pub still : is_settled case.model.effect outcomes ≡ false

pub folded_none : (case : Case) (all rest : List Numbered) (fold : Progress) → rest ≡ all → HasTaken fold case.model.effect [] → IsFolded case all rest fold
folded_none case all rest fold same took = record { seen = []; outcomes = []; parts = sym same; are = tt; took = took; still = refl }

-- one row more
more : (case : Case) (refused : Option Refusal) (seen : List Numbered) (row : Numbered) (outcome : Outcome) (outcomes : List Taken) → AreOutcomes case refused seen outcomes → RowHasOutcome case refused row (Some row.number, outcome)
    → AreOutcomes case refused (seen ++ row ∷ []) (outcomes ++ (Some row.number, outcome) ∷ [])
more case refused seen row outcome outcomes are is = zip_append (RowHasOutcome case refused) seen (row ∷ []) outcomes ((Some row.number, outcome) ∷ []) are (is, tt)

parts_more : (all seen : List Numbered) (row : Numbered) (rest : List Numbered) → all ≡ seen ++ row ∷ rest → all ≡ (seen ++ row ∷ []) ++ rest
parts_more all seen row rest e = e ∙ sym (append_assoc seen (row ∷ []) rest)

-- a fault settles the verdict
failed_settles : (e : Effect) (outcomes : List Taken) (row : Option ℕ) (outcome : Outcome) (failed : Fault) → is_settled e outcomes ≡ false → outcome ≡ Failed failed → is_settled e (outcomes ++ (row, outcome) ∷ []) ≡ true
failed_settles e outcomes row outcome failed still is =
    subst (λ (o : Outcome). is_settled e (outcomes ++ (row, o) ∷ []) ≡ true) (sym is) (ending_settles e outcomes (row, Failed failed) still refl)

failed_verdict : (e : Effect) (outcomes : List Taken) (row : Option ℕ) (outcome : Outcome) (failed : Fault) → is_settled e outcomes ≡ false → outcome ≡ Failed failed → verdict e (outcomes ++ (row, outcome) ∷ []) ≡ settled_by row (Failed failed)
failed_verdict e outcomes row outcome failed still is =
    subst (λ (o : Outcome). verdict e (outcomes ++ (row, o) ∷ []) ≡ settled_by row (Failed failed)) (sym is) (ending_verdict e outcomes (row, Failed failed) still refl)

-- where a row settles nothing, nothing was refused
pub unsettled_none : (case : Case) (Refused : Option (List ℕ) → Type 0) (all rest : List Numbered) (fold : Progress) (row : Numbered) (outcome : Outcome) (told : Bool) → IsFolded case all (row ∷ rest) fold → ComesTo case Refused (Some row.fields) outcome
    → TellsSettled fold (Some row.number) outcome told → told ≡ false → Refused None
unsettled_none case Refused all rest fold row outcome told so (inl (none, is)) tells unsettled = none
unsettled_none case Refused all rest fold row outcome told so (inr (place, pattern, bad, failed, is)) tells unsettled =
    absurd (true≢false (sym (failed_settles case.model.effect so.outcomes (Some row.number) outcome (record { cause = Pattern; at = place }) so.still failed) ∙ sym (tells case.model.effect so.outcomes so.took) ∙ unsettled))

-- a row that comes to an outcome and settles nothing was not refused
pub folded_more : (case : Case) (Refused : Option (List ℕ) → Type 0) (all rest : List Numbered) (fold next : Progress) (row : Numbered) (outcome : Outcome) (told : Bool) → IsFolded case all (row ∷ rest) fold → ComesTo case Refused (Some row.fields) outcome
    → Takes fold next (Some row.number) outcome → TellsSettled fold (Some row.number) outcome told → told ≡ false → IsFolded case all rest next
folded_more case Refused all rest fold next row outcome told so (inl (none, is)) takes tells unsettled = record {
  seen = so.seen ++ row ∷ [];
  outcomes = so.outcomes ++ (Some row.number, outcome) ∷ [];
  parts = parts_more all so.seen row rest so.parts;
  are = more case None so.seen row outcome so.outcomes so.are (refl, is);
  took = takes case.model.effect so.outcomes so.took;
  still = sym (tells case.model.effect so.outcomes so.took) ∙ unsettled;
}
folded_more case Refused all rest fold next row outcome told so (inr (place, pattern, bad, failed, is)) takes tells unsettled =
    absurd (true≢false (sym (failed_settles case.model.effect so.outcomes (Some row.number) outcome (record { cause = Pattern; at = place }) so.still failed) ∙ sym (tells case.model.effect so.outcomes so.took) ∙ unsettled))

-- all rows behind those that settle it
settled_list : (case : Case) → SomeTruthAt case → (refused : Option Refusal) (front rest : List Numbered) (outcomes : List Taken) → AreOutcomes case refused front outcomes → is_settled case.model.effect outcomes ≡ true
    → (whole : List Taken) × AreOutcomes case refused (front ++ rest) whole × (verdict case.model.effect outcomes ≡ verdict case.model.effect whole)
settled_list case truths refused front rest outcomes are settled =
    let others = each_some (RowHasOutcome case refused) (row_outcome_some case truths refused) rest in
    (outcomes ++ others.0, zip_append (RowHasOutcome case refused) front rest outcomes others.0 are others.1, sym (settled_stays case.model.effect outcomes others.0 settled))

-- the search for the pattern at this place is refused at the row of this number
abbrev pub refusal_at : Option ℕ → ℕ → List ℕ → Refusal
refusal_at row place pattern = record { row = row; at = place; pattern = pattern }

-- what is refused at another row is not refused here
pub unrefused : (case : Case) (number place : ℕ) (pattern : List ℕ) (row : Numbered) (taken : Taken) → (number == row.number) ≡ false → RowHasOutcome case None row taken → RowHasOutcome case (Some (refusal_at (Some number) place pattern)) row taken
unrefused case number place pattern row taken other is = (is.0, rw other is.1)

-- what is refused at a row is not refused before it
refuse_later : (case : Case) (number place : ℕ) (pattern : List ℕ) (rows : List Numbered) (outcomes : List Taken) → AllByRecursion (λ (one : Numbered). one.number < number) rows → AreOutcomes case None rows outcomes → AreOutcomes case (Some (refusal_at (Some number) place pattern)) rows outcomes
refuse_later case number place pattern [] [] before are = tt
refuse_later case number place pattern [] (p ∷ ps) before are = absurd are
refuse_later case number place pattern (row ∷ rows) [] before are = absurd are
refuse_later case number place pattern (row ∷ rows) (p ∷ ps) before are =
    let other : (number == row.number) ≡ false = ne_eqb number row.number (λ e. absurd (omega (arith, e, before.0))) in
    (unrefused case number place pattern row p other are.0, refuse_later case number place pattern rows ps before.1 are.1)

pub here_refused : (case : Case) (place : ℕ) (pattern : List ℕ) (row : Numbered) (outcome : Outcome) → OutcomeIs case (Some (place, pattern)) (Some row.fields) outcome
    → RowHasOutcome case (Some (refusal_at (Some row.number) place pattern)) row (Some row.number, outcome)
here_refused case place pattern row outcome is = let same : (row.number == row.number) ≡ true = eq-eqb row.number row.number refl in (refl, rw same is)

-- the row that settles the verdict on the rows that are looked at
pub settled_there : (case : Case) → SomeTruthAt case → (Refused : Option (List ℕ) → Type 0) (table : List Fields) (some rest : List Numbered) (fold next : Progress) (row : Numbered) (outcome : Outcome) (told : Bool) (v : Verdict) → Covers case (numbered_from 1 table) some
    → IsFolded case some (row ∷ rest) fold → ComesTo case Refused (Some row.fields) outcome → Takes fold next (Some row.number) outcome → TellsSettled fold (Some row.number) outcome told → told ≡ true → EndsIn next v
    → IsJudgedOn case (λ refused. AreOutcomes case refused some) Refused v
settled_there case truths Refused table some rest fold next row outcome told v covers so comes takes tells is_told ends = by comes
  where
    e : Effect
    e = case.model.effect

    outcomes : List Taken
    outcomes = so.outcomes ++ (Some row.number, outcome) ∷ []

    settled : is_settled case.model.effect (so.outcomes ++ (Some row.number, outcome) ∷ []) ≡ true
    settled = sym (tells case.model.effect so.outcomes so.took) ∙ is_told

    end : v ≡ verdict case.model.effect (so.outcomes ++ (Some row.number, outcome) ∷ [])
    end = ends case.model.effect (so.outcomes ++ (Some row.number, outcome) ∷ []) (takes case.model.effect so.outcomes so.took)

    whole : (refused : Option Refusal) → AreOutcomes case refused (so.seen ++ row ∷ []) (so.outcomes ++ (Some row.number, outcome) ∷ [])
        → (list : List Taken) × AreOutcomes case refused some list × (v ≡ verdict case.model.effect list)
    whole refused are =
        let list = settled_list case truths refused (so.seen ++ row ∷ []) rest (so.outcomes ++ (Some row.number, outcome) ∷ []) are settled in
        (list.0, subst (λ (rows : List Numbered). AreOutcomes case refused rows list.0) (sym (parts_more some so.seen row rest so.parts)) list.1, end ∙ list.2)

    by : ComesTo case Refused (Some row.fields) outcome → IsJudgedOn case (λ refused. AreOutcomes case refused some) Refused v
    by (inl (none, is)) = inl (none, whole None (more case None so.seen row outcome so.outcomes so.are (refl, is)))
    by (inr (place, pattern, bad, failed, is)) =
        let before = refuse_later case row.number place pattern so.seen so.outcomes (numbers_before case table some so.seen row rest covers so.parts) so.are in
        let front = more case (Some (refusal_at (Some row.number) place pattern)) so.seen row outcome so.outcomes before (here_refused case place pattern row outcome is) in
        inr (
          refusal_at (Some row.number) place pattern,
          bad,
          end ∙ failed_verdict case.model.effect so.outcomes (Some row.number) outcome (record { cause = Pattern; at = place }) so.still failed,
          whole (Some (refusal_at (Some row.number) place pattern)) front,
        )

-- no row settles it
pub open_end_there : (case : Case) → (Refused : Option (List ℕ) → Type 0) (all : List Numbered) (fold : Progress) (v : Verdict) → Refused None → IsFolded case all [] fold → EndsIn fold v → IsJudgedOn case (λ refused. AreOutcomes case refused all) Refused v
open_end_there case Refused all fold v none so ends =
    let whole : all ≡ so.seen = so.parts ∙ append-nil so.seen in
    inl (none, (so.outcomes, subst (λ (rows : List Numbered). AreOutcomes case None rows so.outcomes) (sym whole) so.are, ends case.model.effect so.outcomes so.took))

-- the one evaluation without a row
pub once_there : (case : Case) → (Refused : Option (List ℕ) → Type 0) (fold next : Progress) (outcome : Outcome) (v : Verdict) → ComesTo case Refused None outcome → HasTaken fold case.model.effect [] → Takes fold next None outcome → EndsIn next v
    → IsJudgedOn case (HasOneOutcome case) Refused v
once_there case Refused fold next outcome v (inl (none, is)) took takes ends =
    inl (none, ((None, outcome) ∷ [], (outcome, is, refl), ends case.model.effect ((None, outcome) ∷ []) (takes case.model.effect [] took)))
once_there case Refused fold next outcome v (inr (place, pattern, bad, failed, is)) took takes ends =
    let end = ends case.model.effect ((None, outcome) ∷ []) (takes case.model.effect [] took) in
    inr (
      refusal_at None place pattern,
      bad,
      end ∙ failed_verdict case.model.effect [] None outcome (record { cause = Pattern; at = place }) refl failed,
      ((None, outcome) ∷ [], (outcome, is, refl), end),
    )
