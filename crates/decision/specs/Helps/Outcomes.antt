-- What rows come to, and the verdict on them, step by step.
use Rattle.std.specs.Prelude.{◌≡◌, ◌⊎◌, ℕ, Bool, true, false, List, Option, Some, None, Result}
use Rattle.std.specs.List.{AllZip}
use Rattle.effect_fold.specs.declared.effect.Effect.{Effect}
use Rattle.effect_fold.specs.declared.effect.Effect.TheVariants as effect
use Rattle.effect_fold.specs.declared.fault.Cause.TheVariants.{Pattern}
use Rattle.effect_fold.specs.declared.fault.Fault.{Fault}
use Rattle.effect_fold.specs.declared.outcome.Outcome.{Outcome}
use Rattle.effect_fold.specs.declared.outcome.Outcome.TheVariants.{Failed}
use Rattle.effect_fold.specs.Verdict.{Taken, verdict}
use Rattle.effect_fold.specs.declared.verdict.Verdict.{Verdict}
use Rattle.perm_value.specs.declared.value.View.{View}
use Rattle.perm_value.specs.declared.value.View.TheVariants as view
use Rattle.policy_table.specs.Tables.{Fields}
use Rattle.matcher_meaning.specs.Answers.{Evaluation}
use Rattle.matcher_meaning.specs.Cases.{Case, at_row, where_refused}
use Rattle.matcher_meaning.specs.Comes.{TruthIs}
use Rattle.matcher_meaning.specs.Perm.{Refusal, refusal_fault, row_word}
use Rattle.matcher_meaning.specs.Order.{AreInOrder, Numbered}
use Rattle.matcher_meaning.specs.Verdicts.{HasOutcome, RowHasOutcome}
use Rattle.matcher_code.specs.Compiled.{as_answer}

-- the truth of the model's matcher, as what its code comes to, where a search is refused or none
abbrev pub SaysTruth : Case → Option (ℕ × List ℕ) → Evaluation → Type 0
SaysTruth case refused answer = (t : Result Bool Fault) × (answer ≡ as_answer t) × TruthIs (where_refused case refused) case.model.matcher t

-- the truth that a value is; other values are none
abbrev pub truth_in : View → Bool
truth_in (view.Truth b) = b
truth_in (view.Text bytes) = false
truth_in (view.Whole n) = false
truth_in (view.List values) = false
truth_in (view.Object members) = false
truth_in view.Nothing = false

-- what a row says; without a row it is allow
abbrev pub word_of_row : List (List ℕ) → Option Fields → Option Bool
word_of_row columns None = Some true
word_of_row columns (Some row) = row_word columns row

-- the outcome of a row, or of the evaluation without one, where a search is refused or none
abbrev pub OutcomeIs : Case → Option (ℕ × List ℕ) → Option Fields → Outcome → Type 0
OutcomeIs case refused row outcome = HasOutcome (where_refused (at_row case row) refused) (word_of_row case.model.policy row) outcome

-- an outcome where nothing is refused, and nothing was; or the fault of a search, where that search is refused, and its pattern was
abbrev pub ComesTo : Case → (Option (List ℕ) → Type 0) → Option Fields → Outcome → Type 0
ComesTo case Refused row outcome =
    (Refused None × OutcomeIs case None row outcome)
    ⊎ ((at : ℕ) × (pattern : List ℕ) × Refused (Some pattern) × (outcome ≡ Failed (record { cause = Pattern; at = at })) × OutcomeIs case (Some (at, pattern)) row outcome)

-- the verdict on outcomes of which this holds
abbrev pub IsVerdictOn : Case → (List Taken → Type 0) → Verdict → Type 0
IsVerdictOn case Has v = (outcomes : List Taken) × Has outcomes × (v ≡ verdict case.model.effect outcomes)

-- the verdict on outcomes of which this holds where nothing is refused, and nothing was; or the fault of a search, where that search is refused, and its pattern was
abbrev pub IsJudgedOn : Case → (Option Refusal → List Taken → Type 0) → (Option (List ℕ) → Type 0) → Verdict → Type 0
IsJudgedOn case Has Refused v =
    (Refused None × IsVerdictOn case (Has None) v)
    ⊎ ((refusal : Refusal) × Refused (Some refusal.pattern) × (v ≡ refusal_fault refusal) × IsVerdictOn case (Has (Some refusal)) v)

-- the outcomes of the rows of p, in the order in which they are judged
abbrev pub HasOutcomesInOrder : Case → List Fields → Option Refusal → List Taken → Type 0
HasOutcomesInOrder case table refused outcomes = (judged : List Numbered) × AreInOrder case case.model.effect table judged × AllZip (RowHasOutcome case refused) judged outcomes

-- the effect judges rows by the depth of their subjects
abbrev pub is_by_subjects : Effect → Bool
is_by_subjects effect.AllowOverride = false
is_by_subjects effect.DenyOverride = false
is_by_subjects effect.AllowAndDeny = false
is_by_subjects effect.Priority = false
is_by_subjects effect.SubjectPriority = true
