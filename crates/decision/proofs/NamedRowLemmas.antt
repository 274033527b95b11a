-- A verdict that names a row names one of the table.
use Rattle.std.proofs.Common.{inl, inr, ℕ, suc, ◌+◌, ◌<◌, ◌≤◌, Bool, true, false, cond, IfSome, List, [], ◌∷◌, find, length, Option, Some, None, sym, subst, arith}
use Rattle.std.specs.List.{AllByRecursion, AllZip}
use Rattle.std.specs.List.Sorted.{IsPermutation}
use Rattle.std.proofs.lemmas.List.Elements.{All-from_recursion, recursion_from_All}
use Rattle.std.proofs.lemmas.List.Sorted.{All-permutation}
use Rattle.effect_fold.specs.Verdict.{Taken, allow_by, allows, ends, settled_by, unsettled, verdict, verdict_at}
use Rattle.effect_fold.specs.declared.effect.Effect.{Effect}
use Rattle.effect_fold.specs.declared.effect.Effect.TheVariants as effect
use Rattle.effect_fold.specs.declared.outcome.Outcome.{Outcome}
use Rattle.effect_fold.specs.declared.outcome.Outcome.TheVariants.{Unmatched, Matched, Failed}
use Rattle.effect_fold.specs.declared.verdict.Verdict.{Verdict}
use Rattle.effect_fold.specs.declared.verdict.Verdict.TheVariants.{Allow, Deny, Fault}
use Rattle.model_conf.specs.ModelText.{ModelParts}
use Rattle.perm_base.specs.declared.shapes.Shapes.{Shapes}
use Rattle.perm_base.specs.declared.shapes.TableId.TheVariants.{P}
use Rattle.perm_value.specs.Datum.{Datum}
use Rattle.policy_table.specs.Tables.{Fields, Policy, rows}
use Rattle.matcher_meaning.specs.Cases.{Case}
use Rattle.matcher_meaning.specs.Order.{AreInOrder, Numbered, numbered_from}
use Rattle.matcher_meaning.specs.Perm.{Refusal, names_policy}
use Rattle.matcher_meaning.specs.Verdicts.{HasOneOutcome, HasOutcomesOver, IsJudged, IsVerdict, RowHasOutcome, case_of}

-- the row that a verdict names
abbrev pub row_of : Verdict → Option ℕ
row_of (Allow row) = row
row_of (Deny row) = row
row_of (Fault row failed) = row

-- the rows of a table are judged in an order in which each stands once
abbrev pub OrdersMove : Type 0
OrdersMove = (case : Case) (e : Effect) (table : List Fields) (judged : List Numbered) → AreInOrder case e table judged → IsPermutation (numbered_from 1 table) judged

-- a number of so many rows, counted from 1
abbrev IsRow : ℕ → ℕ → Type 0
IsRow size number = (0 < number) × (number ≤ size)

-- the row of an outcome, or none, is one of so many
abbrev IsAmong : ℕ → Taken → Type 0
IsAmong size taken = IfSome taken.0 (IsRow size)

-- a found outcome is one of those that are sought
found_among : (size : ℕ) (test : Taken → Bool) (outcomes : List Taken) → AllByRecursion (IsAmong size) outcomes → IfSome (find test outcomes) (IsAmong size)
found_among size test [] each = tt
found_among size test (x ∷ xs) each = by (test x) (found_among size test xs each.1)
  where
    by : (passes : Bool) → IfSome (find test xs) (IsAmong size) → IfSome (cond passes (Some x) (find test xs)) (IsAmong size)
    by true rest = each.0
    by false rest = rest

settled_row : (size : ℕ) (row : Option ℕ) (outcome : Outcome) → IfSome row (IsRow size) → IfSome (row_of (settled_by row outcome)) (IsRow size)
settled_row size row (Failed fault) is = is
settled_row size row (Matched true) is = is
settled_row size row (Matched false) is = is
settled_row size row Unmatched is = tt

allowed_row : (size : ℕ) (found : Option Taken) → IfSome found (IsAmong size) → IfSome (row_of (allow_by found)) (IsRow size)
allowed_row size None is = tt
allowed_row size (Some taken) is = is

unsettled_row : (size : ℕ) (e : Effect) (outcomes : List Taken) → AllByRecursion (IsAmong size) outcomes → IfSome (row_of (unsettled e outcomes)) (IsRow size)
unsettled_row size effect.AllowOverride outcomes each = tt
unsettled_row size effect.DenyOverride outcomes each = tt
unsettled_row size effect.AllowAndDeny outcomes each = allowed_row size (find allows outcomes) (found_among size allows outcomes each)
unsettled_row size effect.Priority outcomes each = tt
unsettled_row size effect.SubjectPriority outcomes each = tt

-- the row of a verdict is one of the outcomes'
verdict_row : (size : ℕ) (e : Effect) (outcomes : List Taken) → AllByRecursion (IsAmong size) outcomes → IfSome (row_of (verdict e outcomes)) (IsRow size)
verdict_row size e outcomes each = by (find (ends e) outcomes) (found_among size (ends e) outcomes each)
  where
    by : (found : Option Taken) → IfSome found (IsAmong size) → IfSome (row_of (verdict_at e outcomes found)) (IsRow size)
    by None is = unsettled_row size e outcomes each
    by (Some taken) is = settled_row size taken.0 taken.1 is

-- the rows have numbers up to the last
numbers_within : (size number : ℕ) (table : List Fields) → 0 < number → number + length table ≤ size + 1 → AllByRecursion (λ (row : Numbered). IsRow size row.number) (numbered_from number table)
numbers_within size number [] some few = tt
numbers_within size number (fields ∷ table) some few = ((some, omega arith), numbers_within size (suc number) table (omega arith) (omega arith))

-- and so have the outcomes of rows
outcomes_among : (case : Case) (refused : Option Refusal) (size : ℕ) (judged : List Numbered) (outcomes : List Taken) → AllZip (RowHasOutcome case refused) judged outcomes → AllByRecursion (λ (row : Numbered). IsRow size row.number) judged → AllByRecursion (IsAmong size) outcomes
outcomes_among case refused size [] [] each within = tt
outcomes_among case refused size [] (taken ∷ outcomes) each within = absurd each
outcomes_among case refused size (row ∷ judged) [] each within = absurd each
outcomes_among case refused size (row ∷ judged) (taken ∷ outcomes) each within =
    (subst (λ (number : Option ℕ). IfSome number (IsRow size)) (sym each.0.0) within.0, outcomes_among case refused size judged outcomes each.1 within.1)

one_among : (case : Case) (refused : Option Refusal) (size : ℕ) (outcomes : List Taken) → HasOneOutcome case refused outcomes → AllByRecursion (IsAmong size) outcomes
one_among case refused size outcomes (outcome, is, alone) = subst (AllByRecursion (IsAmong size)) (sym alone) (tt, tt)

has_among : OrdersMove → (case : Case) (refused : Option Refusal) (named : Bool) (table : List Fields) (outcomes : List Taken) → HasOutcomesOver case refused named table outcomes → AllByRecursion (IsAmong (length table)) outcomes
has_among move case refused false table outcomes has = one_among case refused (length table) outcomes has
has_among move case refused true [] outcomes has = one_among case refused 0 outcomes has
has_among move case refused true (row ∷ others) outcomes (judged, in_order, each) =
    let table : List Fields = row ∷ others in
    let within = numbers_within (length table) 1 table (omega arith) (omega arith) in
    outcomes_among case refused (length table) judged outcomes each
    (recursion_from_All (λ (row : Numbered). IsRow (length table) row.number) judged
    (All-permutation (λ (row : Numbered). IsRow (length table) row.number) (numbered_from 1 table) judged (move case case.model.effect table judged in_order)
    (All-from_recursion (λ (row : Numbered). IsRow (length table) row.number) (numbered_from 1 table) within)))

is_verdict_row : OrdersMove → (model : ModelParts) (shapes : Shapes) (policy : Policy) (request : List Datum) (refused : Option Refusal) (v : Verdict) → IsVerdict model shapes policy request refused v → IfSome (row_of v) (IsRow (length (rows policy P)))
is_verdict_row move model shapes policy request refused v (outcomes, has, is) =
    subst (λ (v : Verdict). IfSome (row_of v) (IsRow (length (rows policy P)))) (sym is)
    (verdict_row (length (rows policy P)) model.effect outcomes (has_among move (case_of model shapes policy request) refused (names_policy model.matcher) (rows policy P) outcomes has))

-- a judged verdict names no row, or one of p by its number, counted from 1
pub judged_row : OrdersMove → (model : ModelParts) (shapes : Shapes) (policy : Policy) (request : List Datum) (IsBad : List ℕ → Type 0) (v : Verdict) → IsJudged model shapes policy request IsBad v → IfSome (row_of v) (λ (number : ℕ). (0 < number) × (number ≤ length (rows policy P)))
judged_row move model shapes policy request IsBad v (inl is) = is_verdict_row move model shapes policy request None v is
judged_row move model shapes policy request IsBad v (inr (refusal, bad, fault, is)) = is_verdict_row move model shapes policy request (Some refusal) v is
