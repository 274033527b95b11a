-- What a model, its tables and a request come to (PERM: policy, effect, request, matchers).
use Rattle.std.specs.Prelude.{◌≡◌, ◌⊎◌, ℕ, Bool, true, false, List, [], ◌∷◌, Option, Some, None, Result, Ok, Err}
use Rattle.std.specs.List.{AllZip}
use Rattle.effect_fold.specs.Verdict.{Taken, verdict}
use Rattle.effect_fold.specs.declared.fault.Cause.TheVariants.{Pattern}
use Rattle.effect_fold.specs.declared.fault.Fault.{Fault}
use Rattle.effect_fold.specs.declared.outcome.Outcome.{Outcome}
use Rattle.effect_fold.specs.declared.verdict.Verdict.{Verdict}
use Rattle.perm_base.specs.declared.shapes.Shapes.{Shapes}
use Rattle.perm_base.specs.declared.shapes.TableId.TheVariants.{P}
use Rattle.perm_value.specs.Datum.{Datum}
use Rattle.policy_table.specs.Tables.{Fields, Policy, rows}
use Rattle.model_conf.specs.ModelText.{ModelParts}
use Rattle.matcher_meaning.specs.Cases.{Case, at_row, where_refused}
use Rattle.matcher_meaning.specs.Comes.{TruthIs}
use Rattle.matcher_meaning.specs.Order.{AreInOrder, Numbered}
use Rattle.matcher_meaning.specs.Perm.{Refusal, names_policy, outcome_of, refusal_fault, refused_at, row_word}

-- a request of the model over these tables, without a row, and with nothing refused
abbrev pub case_of : ModelParts → Shapes → Policy → List Datum → Case
case_of model shapes policy request = record { model = model; request = request; row = None; shapes = shapes; policy = policy; refused = None }

-- the model's matcher, with this word, comes to this outcome
abbrev pub HasOutcome : Case → Option Bool → Outcome → Type 0
HasOutcome case word outcome = (t : Result Bool Fault) × TruthIs case case.model.matcher t × (outcome ≡ outcome_of t word)

-- a row of p comes to this outcome under its number
abbrev pub RowHasOutcome : Case → Option Refusal → Numbered → Taken → Type 0
RowHasOutcome case refused row taken =
    (taken.0 ≡ Some row.number)
    × HasOutcome (where_refused (at_row case (Some row.fields)) (refused_at refused (Some row.number))) (row_word case.model.policy row.fields) taken.1

-- the matcher is evaluated once, without a row; its true counts as allow
abbrev pub HasOneOutcome : Case → Option Refusal → List Taken → Type 0
HasOneOutcome case refused outcomes = (outcome : Outcome) × HasOutcome (where_refused (at_row case None) (refused_at refused None)) (Some true) outcome × (outcomes ≡ (None, outcome) ∷ [])

-- the outcomes of the rows of p; a matcher that names no column of the policy is evaluated once, and so is one over no rows
abbrev pub HasOutcomesOver : Case → Option Refusal → Bool → List Fields → List Taken → Type 0
HasOutcomesOver case refused false table outcomes = HasOneOutcome case refused outcomes
HasOutcomesOver case refused true [] outcomes = HasOneOutcome case refused outcomes
HasOutcomesOver case refused true (row ∷ others) outcomes =
    (judged : List Numbered) × AreInOrder case case.model.effect (row ∷ others) judged × AllZip (RowHasOutcome case refused) judged outcomes

-- the verdict of a model for a request over its tables, where one search is refused or none
abbrev pub IsVerdict : ModelParts → Shapes → Policy → List Datum → Option Refusal → Verdict → Type 0
IsVerdict model shapes policy request refused v =
    (outcomes : List Taken) × HasOutcomesOver (case_of model shapes policy request) refused (names_policy model.matcher) (rows policy P) outcomes × (v ≡ verdict model.effect outcomes)

-- what is judged: the verdict where nothing is refused; or the fault of a search for a pattern that counts as refused, and the verdict is this fault where that search is refused
abbrev pub IsJudged : ModelParts → Shapes → Policy → List Datum → (List ℕ → Type 0) → Verdict → Type 0
IsJudged model shapes policy request IsBad v =
    IsVerdict model shapes policy request None v
    ⊎ ((refusal : Refusal) × IsBad refusal.pattern × (v ≡ refusal_fault refusal) × IsVerdict model shapes policy request (Some refusal) v)

-- the truth of the model's matcher, as a value that stands for it, where nothing is refused; or its fault, or the fault of a search for a pattern that counts as refused, where that search is refused
abbrev pub IsTruthOf : {X : Type 0} → (Bool → X) → Case → (List ℕ → Type 0) → Result X Fault → Type 0
IsTruthOf value case IsBad (Ok v) = (b : Bool) × (v ≡ value b) × TruthIs (where_refused case None) case.model.matcher (Ok b)
IsTruthOf value case IsBad (Err failed) =
    TruthIs (where_refused case None) case.model.matcher (Err failed)
    ⊎ ((pattern : List ℕ) × IsBad pattern × (failed.cause ≡ Pattern) × TruthIs (where_refused case (Some (failed.at, pattern))) case.model.matcher (Err failed))
