-- What steps of a run end in: an answer, the fault of a search that was refused, or want of memory.
use Rattle.std.specs.Prelude.{◌≡◌, ◌⊎◌, ⊤, ℕ, Bool, false, true, List, map, option_copied, Option, Some, None, Result, Ok, Err, IsTrue}
use Rattle.effect_fold.specs.declared.fault.Cause.TheVariants.{Pattern}
use Rattle.effect_fold.specs.declared.fault.Fault.{Fault}
use Rattle.matcher_read.specs.Expression.{Callee, function, relation}
use Rattle.model_conf.specs.ModelText.{ModelParts}
use Rattle.perm_base.specs.declared.shapes.Shapes.{Shapes}
use Rattle.perm_value.specs.Datum.{Datum}
use Rattle.perm_value.specs.Seen.{datum, datum_of_view}
use Rattle.perm_value.specs.declared.value.View.{View}
use Rattle.policy_table.specs.Tables.{Policy}
use Rattle.matcher_meaning.specs.Answers.{Evaluation, fails}
use Rattle.matcher_meaning.specs.CaseCalls.{Gives}
use Rattle.matcher_meaning.specs.Cases.{Case, where_refused}
use Rattle.matcher_meaning.specs.Meaning.{is_search}
use Rattle.matcher_code.specs.Machine.{Next, failed, goes, Does, Executes}
use Rattle.matcher_code.specs.declared.calls.Called.{Called}
use Rattle.matcher_code.specs.declared.calls.Called.TheVariants as called
use Rattle.matcher_code.specs.declared.halt.Halt.{Halt}
use Rattle.matcher_code.specs.declared.halt.Halt.TheVariants as halt
use Rattle.matcher_code.specs.RunEnds.{case_of, searches}
use Rattle.matcher_code.specs.declared.asked.Asked.{Asked}
use Rattle.matcher_code.specs.declared.op.Op.{Op}
use Rattle.matcher_code.specs.declared.op.Instruction.{Instruction}
use Rattle.matcher_code.specs.declared.op.Instruction.TheVariants as i
use Rattle.matcher_code.specs.declared.step.Step.{Step}
use Rattle.matcher_code.specs.declared.step.Step.TheVariants as step
use Rattle.matcher_code.specs.declared.no_truth.NoTruth.{NoTruth}
use Rattle.matcher_code.specs.declared.no_truth.NoTruth.TheVariants as stop

-- an answer over borrowed parts
abbrev pub answer_of : Result View Fault → Evaluation
answer_of (Ok v) = Ok (datum_of_view v)
answer_of (Err fault) = Err fault

-- what is called
abbrev pub callee : Called → Callee
callee (called.Function f) = function f
callee (called.Relation number) = relation number

-- the case over these tables
abbrev pub over_tables : Case → Shapes → Policy → Case
over_tables case shapes policy = record case { shapes = shapes; policy = policy }

-- what an evaluation ends in, by what is said of its answer where a search is refused or none: its answer where none is, the fault of a search that was refused, or want of memory, which only searches meet
abbrev pub EndsIn : {X Y : Type 0} → (Option (ℕ × List ℕ) → Result Y Fault → Type 0) → (X → Y) → Bool → Result X Halt → Type 0
EndsIn Says value searching (Ok x) = Says None (Ok (value x))
EndsIn Says value searching (Err (halt.Fault fault)) = Says None (Err fault)
EndsIn Says value searching (Err (halt.Refused at pattern)) = Says (Some (at, pattern.now)) (fails Pattern at)
EndsIn Says value searching (Err halt.NoMemory) = IsTrue searching

-- a call for these values does
abbrev pub CallEnds : Case → ℕ → Callee → List Datum → Result View Halt → Type 0
CallEnds case at called ds r = EndsIn (λ refused answer. Gives (where_refused case refused) at called ds answer) datum_of_view (is_search called) r

-- the pattern that an evaluation ended at, where it was refused
abbrev pub refused_by : {X : Type 0} → Result X Halt → Option (List ℕ)
refused_by (Err (halt.Refused at pattern)) = Some pattern.now
refused_by _ = None

-- what a run is for, over these tables
abbrev pub case_for : ModelParts → Asked → Shapes → Policy → Case
case_for model asked shapes policy = case_of model (map datum asked.request.now) (option_copied asked.row) shapes policy

-- a step leads there, with these values on the stack behind it
abbrev pub NextIs : Next → List Datum → Result Step Halt → Type 0
NextIs next after (Ok (step.Goes to)) = next ≡ goes to after
NextIs next after (Ok (step.Eval column)) = ⊥
NextIs next after (Err (halt.Fault fault)) = next ≡ failed fault
NextIs next after (Err (halt.Refused at pattern)) = ⊥
NextIs next after (Err halt.NoMemory) = ⊥

-- an instruction that asks nobody leads there from one stack, with another behind it
abbrev pub IsDone : Case → ℕ → ℕ → Instruction → List View → List View → Result Step Halt → Type 0
IsDone case place at instruction before after (Ok (step.Goes to)) = Does case place at instruction (map datum_of_view before) (goes to (map datum_of_view after))
IsDone case place at instruction before after (Ok (step.Eval column)) = ⊥
IsDone case place at instruction before after (Err (halt.Fault fault)) = Does case place at instruction (map datum_of_view before) (failed fault)
IsDone case place at instruction before after (Err (halt.Refused where_it pattern)) = ⊥
IsDone case place at instruction before after (Err halt.NoMemory) = ⊥

-- the instruction that goes on at another place where the top value is this truth
abbrev pub skipping : Bool → ℕ → Instruction
skipping false to = i.SkipFalse to
skipping true to = i.SkipTrue to

-- what a step leads to, by what is said of that where a search is refused or none
abbrev pub NextEnds : (Option (ℕ × List ℕ) → Next → Type 0) → List Datum → Bool → Result Step Halt → Type 0
NextEnds Says after searching (Ok (step.Goes to)) = Says None (goes to after)
NextEnds Says after searching (Ok (step.Eval column)) = ⊥
NextEnds Says after searching (Err (halt.Fault fault)) = Says None (failed fault)
NextEnds Says after searching (Err (halt.Refused at pattern)) = Says (Some (at, pattern.now)) (failed (record { cause = Pattern; at = at }))
NextEnds Says after searching (Err halt.NoMemory) = IsTrue searching

-- what the instruction at a place leads to from one stack, and with another behind it: an `eval` leaves the stack as it is
abbrev pub StepEnds : Case → ℕ → Op → List View → List View → Result Step Halt → Type 0
StepEnds case place op before after (Ok (step.Goes to)) = Executes (where_refused case None) place op (map datum_of_view before) (goes to (map datum_of_view after))
StepEnds case place op before after (Ok (step.Eval column)) = (op.instruction ≡ i.Eval column) × (after ≡ before)
StepEnds case place op before after (Err (halt.Fault fault)) = Executes (where_refused case None) place op (map datum_of_view before) (failed fault)
StepEnds case place op before after (Err (halt.Refused at pattern)) = Executes (where_refused case (Some (at, pattern.now))) place op (map datum_of_view before) (failed (record { cause = Pattern; at = at }))
StepEnds case place op before after (Err halt.NoMemory) = IsTrue (searches op.instruction)

-- a relation is asked with two names or with three
abbrev pub IsAskedRightly : Instruction → Type 0
IsAskedRightly (i.Role number names) = (names ≡ 2) ⊎ (names ≡ 3)
IsAskedRightly _ = ⊤

-- why a run stopped: a search that was refused is a fault of its place
abbrev pub stop_of : Halt → NoTruth
stop_of (halt.Fault fault) = stop.Fault fault
stop_of (halt.Refused at pattern) = stop.Fault (record { cause = Pattern; at = at })
stop_of halt.NoMemory = stop.NoMemory
