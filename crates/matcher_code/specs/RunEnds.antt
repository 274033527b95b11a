-- What a run of code ends in.
use Rattle.std.specs.Prelude.{◌≡◌, ◌⊎◌, ℕ, Bool, true, false, List, Option, Some, None, Result, Ok, Err, ⊤}
use Rattle.std.specs.List.{list_any}
use Rattle.effect_fold.specs.declared.fault.Cause.TheVariants.{Pattern}
use Rattle.matcher_read.specs.Expression.{function}
use Rattle.model_conf.specs.ModelText.{ModelParts}
use Rattle.perm_base.specs.declared.shapes.Shapes.{Shapes}
use Rattle.perm_value.specs.Datum.{Datum}
use Rattle.perm_value.specs.Seen.{datum_of_view}
use Rattle.perm_value.specs.declared.value.View.{View}
use Rattle.policy_table.specs.Tables.{Fields, Policy}
use Rattle.matcher_meaning.specs.Answers.{Evaluation}
use Rattle.matcher_meaning.specs.Cases.{Case, where_refused}
use Rattle.matcher_meaning.specs.Meaning.{is_search}
use Rattle.matcher_code.specs.Machine.{CodeComesTo}
use Rattle.matcher_code.specs.declared.op.Op.{Op}
use Rattle.matcher_code.specs.declared.op.Instruction.{Instruction}
use Rattle.matcher_code.specs.declared.op.Instruction.TheVariants as i
use Rattle.matcher_code.specs.declared.no_truth.NoTruth.{NoTruth}
use Rattle.matcher_code.specs.declared.no_truth.NoTruth.TheVariants as stop

-- a model, a request and a row over tables, where no search is refused
abbrev pub case_of : ModelParts → List Datum → Option Fields → Shapes → Policy → Case
case_of model request row shapes policy = record { model = model; request = request; row = row; shapes = shapes; policy = policy; refused = None }

-- memory ran out
abbrev pub IsWantOfMemory : NoTruth → Type 0
IsWantOfMemory (stop.Fault failed) = ⊥
IsWantOfMemory stop.NoMemory = ⊤

-- a value or a fault of which this is said where nothing is refused, and the finder refused nothing; or the fault of a search, of which it is said where that search is refused, and the finder refused its pattern alone; where memory ran out, the finder refused nothing
abbrev pub IsAnswer : {X : Type 0} → (Option (ℕ × List ℕ) → Evaluation → Type 0) → (X → Datum) → (Option (List ℕ) → Type 0) → Result X NoTruth → Type 0
IsAnswer Says value Refused (Ok x) = Refused None × Says None (Ok (value x))
IsAnswer Says value Refused (Err (stop.Fault failed)) =
    (Refused None × Says None (Err failed))
    ⊎ ((pattern : List ℕ) × Refused (Some pattern) × (failed.cause ≡ Pattern) × Says (Some (failed.at, pattern)) (Err failed))
IsAnswer Says value Refused (Err stop.NoMemory) = Refused None

-- what the code comes to in a case
abbrev pub IsValueOf : Case → List Op → (Option (List ℕ) → Type 0) → Result View NoTruth → Type 0
IsValueOf case ops Refused r = IsAnswer (λ refused answer. CodeComesTo (where_refused case refused) ops answer) datum_of_view Refused r

-- a call of `regexMatch`
abbrev pub searches : Instruction → Bool
searches (i.Function called) = is_search (function called)
searches _ = false

-- an `eval`
abbrev pub evaluates : Instruction → Bool
evaluates (i.Eval column) = true
evaluates _ = false

-- an instruction that takes memory: one of the two
abbrev pub takes_memory : Instruction → Bool
takes_memory (i.Function called) = is_search (function called)
takes_memory (i.Eval column) = true
takes_memory _ = false

-- one of these takes memory
abbrev pub some_takes_memory : List Op → Bool
some_takes_memory ops = list_any (λ (op : Op). takes_memory op.instruction) ops
