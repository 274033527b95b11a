-- Three instructions that compare a column of the request with one of the row, done as one.
use Rattle.std.specs.Prelude.{◌≡◌, ◌⊎◌, ◌+◌, ℕ, Bool, List, ◌∷◌, Option, Some, Result, Ok, slice_get}
use Rattle.std.specs.Str.{bytes_eq}
use Rattle.matcher_read.specs.declared.tree.Operator.TheVariants.{Equal}
use Rattle.perm_value.specs.Datum.{Datum, text}
use Rattle.perm_value.specs.declared.value.View.{View}
use Rattle.perm_value.specs.declared.value.View.TheVariants as view
use Rattle.policy_table.specs.Tables.{Fields}
use Rattle.matcher_meaning.specs.Cases.{Case}
use Rattle.matcher_code.specs.Helps.Ends.{StepEnds}
use Rattle.matcher_code.specs.Machine.{field_at}
use Rattle.matcher_code.specs.declared.halt.Halt.{Halt}
use Rattle.matcher_code.specs.declared.op.Op.{Op}
use Rattle.matcher_code.specs.declared.op.Instruction.TheVariants as i
use Rattle.matcher_code.specs.declared.step.Step.{Step}
use Rattle.matcher_code.specs.declared.step.Step.TheVariants as step

-- the two instructions behind a place take the row's field in this column, and ask whether it equals the value below it
pub record AreCompared (ops : List Op) (place field : ℕ) : Type 0 where
  pub second : Op
  pub third : Op
  pub behind : slice_get ops (place + 1) ≡ Some second
  pub takes : second.instruction ≡ i.Policy field
  pub last : slice_get ops (place + 2) ≡ Some third
  pub compares : third.instruction ≡ i.Binary Equal

-- the instruction at a place asks for a column of the request, which has a text there; it is told whether this equals the field that the two behind it take
pub record Compares (request : List Datum) (row : Option Fields) (ops : List Op) (place : ℕ) (op : Op) (same : Bool) : Type 0 where
  pub column : ℕ
  pub field : ℕ
  pub bytes : List ℕ
  pub asks : op.instruction ≡ i.Request column
  pub there : slice_get request column ≡ Some (text bytes)
  pub rest : AreCompared ops place field
  pub told : same ≡ bytes_eq bytes (field_at row field)

-- they were done as one: what is told is put on the stack, and the machine goes on behind them
pub record HasCompared (case : Case) (ops : List Op) (place : ℕ) (op : Op) (before after : List View) (r : Result Step Halt) : Type 0 where
  pub same : Bool
  pub compares : Compares case.request case.row ops place op same
  pub puts : after ≡ view.Truth same ∷ before
  pub goes : r ≡ Ok (step.Goes (place + 3))

-- what going on from a place ends in, where this instruction stands: it is done, or it and the two behind it
abbrev pub Advances : Case → List Op → ℕ → Op → List View → List View → Result Step Halt → Type 0
Advances case ops place op before after r = StepEnds case place op before after r ⊎ HasCompared case ops place op before after r
