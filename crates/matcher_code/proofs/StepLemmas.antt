-- Steps of a run that call.
use Rattle.std.proofs.Common.{◌≡◌, ℕ, ◌+◌, List, [], ◌∷◌, map, Option, Some, None, Result, Ok, Err, IsTrue, refl, sym, ap, subst, ◌∙◌}
use Rattle.effect_fold.specs.declared.fault.Cause.TheVariants.{Pattern}
use Rattle.matcher_read.specs.Calls.{arity}
use Rattle.matcher_read.specs.Expression.{Callee, function, relation}
use Rattle.matcher_read.specs.declared.tree.Function.{Function}
use Rattle.perm_value.specs.Datum.{Datum}
use Rattle.perm_value.specs.Seen.{datum_of_view}
use Rattle.perm_value.specs.declared.value.View.{View}
use Rattle.regex_gate.specs.Refusals.{Refusals, RefusedOnly}
use Rattle.matcher_meaning.specs.Answers.{fails}
use Rattle.matcher_meaning.specs.CaseCalls.{Gives}
use Rattle.matcher_meaning.specs.Cases.{Case, where_refused}
use Rattle.matcher_meaning.specs.Meaning.{is_search}
use Rattle.matcher_code.specs.Helps.Ends.{CallEnds, IsDone, NextEnds, StepEnds}
use Rattle.matcher_code.specs.Machine.{Next, failed, goes, Called, Does, Executes, taken}
use Rattle.matcher_code.specs.RunEnds.{searches}
use Rattle.matcher_code.specs.declared.halt.Halt.{Halt}
use Rattle.matcher_code.specs.declared.halt.Halt.TheVariants as halt
use Rattle.matcher_code.specs.declared.op.Op.{Op}
use Rattle.matcher_code.specs.declared.op.Instruction.{Instruction}
use Rattle.matcher_code.specs.declared.op.Instruction.TheVariants as i
use Rattle.matcher_code.specs.declared.step.Step.{Step}
use Rattle.matcher_code.specs.declared.step.Step.TheVariants as step

-- what is said of a call for the top values of a stack
abbrev pub CallsTop : Case → ℕ → ℕ → Callee → ℕ → List Datum → Option (ℕ × List ℕ) → Next → Type 0
CallsTop case place at callee names stack refused next = Called (where_refused case refused) place at callee (taken names [] stack) next

-- a call that stops
pub call_stops : (case : Case) (place at : ℕ) (callee : Callee) (names : ℕ) (ds below stack after : List Datum) (stop : Halt) → taken names [] stack ≡ Some (ds, below) → CallEnds case at callee ds (Err stop)
    → NextEnds (CallsTop case place at callee names stack) after (is_search callee) (Err stop)
call_stops case place at callee names ds below stack after (halt.Fault fault) is ends =
    subst (λ (parts : Option (List Datum × List Datum)). Called (where_refused case None) place at callee parts (failed fault)) (sym is) (Err fault, ends, refl)
call_stops case place at callee names ds below stack after (halt.Refused place_at pattern) is ends =
    subst (λ (parts : Option (List Datum × List Datum)). Called (where_refused case (Some (place_at, pattern.now))) place at callee parts (failed (record { cause = Pattern; at = place_at }))) (sym is) (fails Pattern place_at, ends, refl)
call_stops case place at callee names ds below stack after halt.NoMemory is ends = ends

-- and one that gives a value
pub call_gives : (case : Case) (place at : ℕ) (callee : Callee) (names : ℕ) (ds below stack : List Datum) (v : View) → taken names [] stack ≡ Some (ds, below)
    → Gives (where_refused case None) at callee ds (Ok (datum_of_view v)) → CallsTop case place at callee names stack None (goes (place + 1) (datum_of_view v ∷ below))
call_gives case place at callee names ds below stack v is gives =
    subst (λ (parts : Option (List Datum × List Datum)). Called (where_refused case None) place at callee parts (goes (place + 1) (datum_of_view v ∷ below))) (sym is) (Ok (datum_of_view v), gives, refl)

-- two values from the top of a stack
pub two_taken : (before between below : List View) (second first : View) → before ≡ second ∷ between → between ≡ first ∷ below
    → taken 2 [] (map datum_of_view before) ≡ Some (datum_of_view first ∷ datum_of_view second ∷ [], map datum_of_view below)
two_taken before between below second first one two = ap (λ (vs : List View). taken 2 [] (map datum_of_view vs)) (one ∙ ap (λ (vs : List View). second ∷ vs) two)

-- and three
pub three_taken : (before between under below : List View) (third second first : View) → before ≡ third ∷ between → between ≡ second ∷ under → under ≡ first ∷ below
    → taken 3 [] (map datum_of_view before) ≡ Some (datum_of_view first ∷ datum_of_view second ∷ datum_of_view third ∷ [], map datum_of_view below)
three_taken before between under below third second first one two three =
    ap (λ (vs : List View). taken 3 [] (map datum_of_view vs)) (one ∙ ap (λ (vs : List View). third ∷ vs) (two ∙ ap (λ (vs : List View). second ∷ vs) three))

-- the same call by an equal number of names
pub names_same : (case : Case) (place at : ℕ) (callee : Callee) (names other : ℕ) (stack after : List Datum) (r : Result Step Halt) → names ≡ other
    → NextEnds (CallsTop case place at callee names stack) after (is_search callee) r → NextEnds (CallsTop case place at callee other stack) after (is_search callee) r
names_same case place at callee names other stack after r same ends = subst (λ (n : ℕ). NextEnds (CallsTop case place at callee n stack) after (is_search callee) r) same ends

-- a call is what its instruction does
call_step : (case : Case) (place : ℕ) (op : Op) (callee : Callee) (names : ℕ) (before after : List View) (r : Result Step Halt)
    → ((refused : Option (ℕ × List ℕ)) (next : Next) → CallsTop case place op.at callee names (map datum_of_view before) refused next → Executes (where_refused case refused) place op (map datum_of_view before) next)
    → is_search callee ≡ searches op.instruction → NextEnds (CallsTop case place op.at callee names (map datum_of_view before)) (map datum_of_view after) (is_search callee) r
    → StepEnds case place op before after r
call_step case place op callee names before after (Ok (step.Goes to)) does same ends = does None _ ends
call_step case place op callee names before after (Ok (step.Eval column)) does same ends = absurd ends
call_step case place op callee names before after (Err (halt.Fault fault)) does same ends = does None _ ends
call_step case place op callee names before after (Err (halt.Refused at pattern)) does same ends = does (Some (at, pattern.now)) _ ends
call_step case place op callee names before after (Err halt.NoMemory) does same ends = subst IsTrue same ends

pub function_step : (case : Case) (place : ℕ) (op : Op) (called : Function) (names : ℕ) (before after : List View) (r : Result Step Halt) → op.instruction ≡ i.Function called → names ≡ arity called
    → NextEnds (CallsTop case place op.at (function called) names (map datum_of_view before)) (map datum_of_view after) (is_search (function called)) r → StepEnds case place op before after r
function_step case place op called names before after r is many ends =
    call_step case place op (function called) (arity called) before after r
    (λ refused next calls. subst (λ (instruction : Instruction). Does (where_refused case refused) place op.at instruction (map datum_of_view before) next) (sym is) calls)
    (ap searches (sym is)) (names_same case place op.at (function called) names (arity called) (map datum_of_view before) (map datum_of_view after) r many ends)

pub role_step : (case : Case) (place : ℕ) (op : Op) (number names : ℕ) (before after : List View) (r : Result Step Halt) → op.instruction ≡ i.Role number names
    → NextEnds (CallsTop case place op.at (relation number) names (map datum_of_view before)) (map datum_of_view after) (is_search (relation number)) r → StepEnds case place op before after r
role_step case place op number names before after r is ends =
    call_step case place op (relation number) names before after r
    (λ refused next calls. subst (λ (instruction : Instruction). Does (where_refused case refused) place op.at instruction (map datum_of_view before) next) (sym is) calls)
    (ap searches (sym is)) ends

-- an instruction that asks nobody does what it does as a step
pub done_step : (case : Case) (place : ℕ) (op : Op) (instruction : Instruction) (before after : List View) (r : Result Step Halt) → op.instruction ≡ instruction → IsDone (where_refused case None) place op.at instruction before after r → StepEnds case place op before after r
done_step case place op instruction before after (Ok (step.Goes to)) is done = subst (λ (what : Instruction). Does (where_refused case None) place op.at what (map datum_of_view before) (goes to (map datum_of_view after))) (sym is) done
done_step case place op instruction before after (Ok (step.Eval column)) is done = absurd done
done_step case place op instruction before after (Err (halt.Fault fault)) is done = subst (λ (what : Instruction). Does (where_refused case None) place op.at what (map datum_of_view before) (failed fault)) (sym is) done
done_step case place op instruction before after (Err (halt.Refused at pattern)) is done = absurd done
done_step case place op instruction before after (Err halt.NoMemory) is done = absurd done

-- what asks nobody is told of no search
pub none_used : (refusals : Refusals) (refused : Option (List ℕ)) → refused ≡ None → RefusedOnly refusals refusals refused
none_used refusals refused is = subst (RefusedOnly refusals refusals) (sym is) refl
