-- What items that workers answer come to.
use Rattle.std.specs.Prelude.{◌≡◌, ◌⊎◌, ℕ, ◌≤◌, List, Option, Result, IfErr, OnOk, take}
use Rattle.std.specs.List.{AllZip}
use Rattle.answer_lines.specs.declared.answer.Line.{Line}
use Rattle.model_conf.specs.ModelText.{ModelParts}
use Rattle.outside.specs.Faults.{Rose}
use Rattle.live_rounds.specs.declared.taker.TakeStop.{TakeStop}
use Rattle.live_rounds.specs.declared.taker.TakeStop.TheVariants as taker
use Rattle.live_rounds.specs.declared.taker.TakeStop.TheVariants.{Failed}
use Rattle.outside.specs.Told.{TookFront, with_back}
use Rattle.perm_base.specs.declared.shapes.Shapes.{Shapes}
use Rattle.policy_table.specs.Tables as table
use Rattle.regex_gate.specs.Refusals.{IsUsed, Refusals}
use Rattle.run_status.specs.declared.stop.Stop.{Stop}
use Rattle.run_status.specs.declared.stop.Stop.TheVariants.{CannotWrite, NoMemory}
use Rattle.script_read.specs.Said.{Said}
use Rattle.session_meaning.specs.Plain.{all_refused}
use Rattle.session_meaning.specs.Rounds.{IsShared}
use Rattle.loaded_work.specs.declared.loaded.Loaded.{Loaded}
use Rattle.casbin_run.specs.Finders.{HaveRefusedAll}
use Rattle.loaded_work.specs.Texts.{text_of_lines}
use Rattle.loaded_work.specs.Sinks.{Taken}
use Rattle.loaded_work.specs.Helps.TaskSteps.{LinesStop}

-- items that are said have these lines where workers answer, each by its finder
pub record LinesShared (IsSaid : List Said → Type 0) (workers : ℕ) (model : ModelParts) (shapes : Shapes) (policy : table.Policy) (befores nows : List Refusals) : Type 0 where
  pub items : List Said
  pub lines : List Line
  pub refused : List (List (List ℕ))
  pub says : IsSaid items
  pub shared : IsShared model shapes policy workers items refused lines
  pub logged : HaveRefusedAll befores nows (all_refused refused)

-- the sink took their whole text, or not
pub record SharedAll (IsSaid : List Said → Type 0) (workers : ℕ) (model : ModelParts) (shapes : Shapes) (policy : table.Policy) (befores nows : List Refusals) (out out_now : Option (List ℕ)) : Type 0 where
  pub printed : LinesShared IsSaid workers model shapes policy befores nows
  pub took : out_now ≡ with_back out (text_of_lines printed.lines)

pub record SharedSome (IsSaid : List Said → Type 0) (workers : ℕ) (model : ModelParts) (shapes : Shapes) (policy : table.Policy) (befores nows : List Refusals) (out out_now : Option (List ℕ)) (out_rose : Type 0) (stop : Stop) : Type 0 where
  pub printed : LinesShared IsSaid workers model shapes policy befores nows
  pub stops : LinesStop out out_now printed.lines out_rose stop

-- what answering the items by workers comes to
pub record AreAnsweredShared (IsSaid : List Said → Type 0) (workers : ℕ) (loaded : Loaded) (befores nows : List Refusals) (out out_now : Taken) (result : Result (Unit {0}) Stop) : Type 0 where
  pub printed : OnOk result (SharedAll IsSaid workers loaded.model loaded.shapes loaded.tables.policy befores nows out.bytes out_now.bytes)
  pub stopped : IfErr result (λ (stop : Stop). ((stop ≡ NoMemory) × (out_now.bytes ≡ out.bytes)) ⊎ SharedSome IsSaid workers loaded.model loaded.shapes loaded.tables.policy befores nows out.bytes out_now.bytes (Rose out.faults out_now.faults) stop)
  pub counted : out.faults ≤ out_now.faults
  pub used : AllZip IsUsed befores nows

-- ---- lines that are printed, those of each round once it is over

-- a sink took the text of lines
abbrev pub Printed : (out out_now : Option (List ℕ)) (faults faults_now : ℕ) → List Line → Type 0
Printed out out_now faults faults_now lines = (out_now ≡ with_back out (text_of_lines lines)) × (faults ≤ faults_now)

-- it took a front of it, or the whole lines of the first so many
abbrev pub PrintedAmid : (out out_now : Option (List ℕ)) (faults faults_now : ℕ) → List Line → TakeStop → Type 0
PrintedAmid out out_now faults faults_now lines Failed = (TookFront out out_now (text_of_lines lines) × Rose faults faults_now) × (faults ≤ faults_now)
PrintedAmid out out_now faults faults_now lines taker.NoMemory = ((count : ℕ) × (out_now ≡ with_back out (text_of_lines (take count lines)))) × (faults ≤ faults_now)

-- a stop at lines as their taker tells it, and as a run does
abbrev pub take_stop_of : Stop → TakeStop
take_stop_of CannotWrite = Failed
take_stop_of _ = taker.NoMemory

abbrev pub stop_of : TakeStop → Stop
stop_of Failed = CannotWrite
stop_of taker.NoMemory = NoMemory
