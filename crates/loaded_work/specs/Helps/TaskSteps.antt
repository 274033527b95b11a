-- What steps of a task come to over what was read of its files.
use Rattle.std.specs.Prelude.{◌≡◌, ◌⊎◌, ℕ, ◌≤◌, Bool, List, Option, Result, IfErr, OnOk, String, take, ⊤}
use Rattle.std.specs.declared.alloc.Global.{Global}
use Rattle.answer_lines.specs.declared.answer.Line.{Line}
use Rattle.decision.specs.Programs.{Suits}
use Rattle.desk_session.specs.Requests.{Refuses, TellsAnswer}
use Rattle.model_conf.specs.ModelText.{ModelParts}
use Rattle.outside.specs.Faults.{Rose}
use Rattle.outside.specs.Told.{TookFront, with_back}
use Rattle.perm_base.specs.Shapes.{AreValid}
use Rattle.perm_base.specs.declared.shapes.Shapes.{Shapes}
use Rattle.policy_state.specs.States.{State, tables}
use Rattle.policy_table.specs.Limits.{AreSound}
use Rattle.policy_table.specs.Tables as table
use Rattle.regex_gate.specs.Refusals.{IsUsed, Refusals}
use Rattle.run_status.specs.declared.part.Part.TheVariants.{Report}
use Rattle.run_status.specs.declared.stop.Stop.{Stop}
use Rattle.run_status.specs.declared.stop.Stop.TheVariants.{CannotWrite, TooLong, NoMemory}
use Rattle.script_read.specs.Reads.{Says}
use Rattle.script_read.specs.Said.{Reading, Said, asks}
use Rattle.session_meaning.specs.Plain.{IsPlain, all_refused}
use Rattle.version_log.specs.Log.{versions}
use Rattle.loaded_work.specs.declared.loaded.Loaded.{Loaded}
use Rattle.loaded_work.specs.Finders.{HasRefused}
use Rattle.loaded_work.specs.Roles.{IsLong, IsReported, IsShort}
use Rattle.loaded_work.specs.Texts.{text_of_lines}
use Rattle.loaded_work.specs.Sinks.{Taken}

-- what was loaded can be worked with
pub record IsReady (loaded : Loaded) : Type 0 where
  pub valid : AreValid loaded.shapes
  pub sound : AreSound loaded.shapes loaded.tables.policy
  pub suits : Suits loaded.model loaded.shapes

-- the program is the model's, and the state is the policy's, with no edit yet
pub record IsOpened (loaded : Loaded) (program : ModelParts) (state : State) : Type 0 where
  pub program_is : program ≡ loaded.model
  pub shapes_are : state.shapes ≡ loaded.shapes
  pub policy_is : tables state ≡ loaded.tables.policy
  pub suits : Suits program state.shapes
  pub opening : versions state.log ≡ 0

-- the state is the policy's, with no edit yet
pub record IsFirst (shapes : Shapes) (policy : table.Policy) (state : State) : Type 0 where
  pub shapes_are : state.shapes ≡ shapes
  pub policy_is : tables state ≡ policy
  pub opening : versions state.log ≡ 0

-- items that are said have these lines, and of all that was refused for them, one after the other, this holds
pub record LinesOf (IsSaid : List Said → Type 0) (model : ModelParts) (shapes : Shapes) (policy : table.Policy) (IsLogged : List (List ℕ) → Type 0) : Type 0 where
  pub items : List Said
  pub lines : List Line
  pub refused : List (List (List ℕ))
  pub says : IsSaid items
  pub plain : IsPlain model shapes policy items refused lines
  pub logged : IsLogged (all_refused refused)

-- why lines were not pushed to their end: the sink took a front of their text, or the whole lines of the first so many
abbrev pub LinesStop : Option (List ℕ) → Option (List ℕ) → List Line → (out_rose : Type 0) → Stop → Type 0
LinesStop out out_now lines out_rose CannotWrite = TookFront out out_now (text_of_lines lines) × out_rose
LinesStop out out_now lines out_rose NoMemory = (count : ℕ) × (out_now ≡ with_back out (text_of_lines (take count lines)))
LinesStop out out_now lines out_rose _ = ⊥

-- lines of which the sink took the whole text, or not
pub record PrintedAll (IsSaid : List Said → Type 0) (model : ModelParts) (shapes : Shapes) (policy : table.Policy) (before now : Refusals) (out out_now : Option (List ℕ)) : Type 0 where
  pub printed : LinesOf IsSaid model shapes policy (HasRefused before now)
  pub took : out_now ≡ with_back out (text_of_lines printed.lines)

pub record PrintedSome (IsSaid : List Said → Type 0) (model : ModelParts) (shapes : Shapes) (policy : table.Policy) (before now : Refusals) (out out_now : Option (List ℕ)) (out_rose : Type 0) (stop : Stop) : Type 0 where
  pub printed : LinesOf IsSaid model shapes policy (HasRefused before now)
  pub stops : LinesStop out out_now printed.lines out_rose stop

-- why the answers to items were not printed to their end: memory ran out before any was pushed, or while their lines were
abbrev pub AnswerStops : (IsSaid : List Said → Type 0) → ModelParts → Shapes → table.Policy → (before now : Refusals) → (out out_now : Option (List ℕ)) → (out_rose : Type 0) → Stop → Type 0
AnswerStops IsSaid model shapes policy before now out out_now out_rose stop = ((stop ≡ NoMemory) × (out_now ≡ out)) ⊎ PrintedSome IsSaid model shapes policy before now out out_now out_rose stop

-- what answering the items that are said comes to, over what was loaded
pub record AreAnswered (IsSaid : List Said → Type 0) (loaded : Loaded) (before now : Refusals) (out out_now : Taken) (result : Result (Unit {0}) Stop) : Type 0 where
  pub printed : OnOk result (PrintedAll IsSaid loaded.model loaded.shapes loaded.tables.policy before now out.bytes out_now.bytes)
  pub stopped : IfErr result (AnswerStops IsSaid loaded.model loaded.shapes loaded.tables.policy before now out.bytes out_now.bytes (Rose out.faults out_now.faults))
  pub counted : out.faults ≤ out_now.faults
  pub used : IsUsed before now

-- a line of requests is answered by a line
pub record AnswersLine (model : ModelParts) (state : State) (json : Bool) (before now : Refusals) (line : List ℕ) (number : ℕ) (old new : String Global) : Type 0 where
  pub reading : Reading
  pub says : Says json line reading
  pub told : TellsAnswer model state before now reading number old new

-- it is not, and the finder refused this meanwhile
pub record StopsLine (model : ModelParts) (json : Bool) (before now : Refusals) (line : List ℕ) : Type 0 where
  pub reading : Reading
  pub says : Says json line reading
  pub asked : Refuses model before now (asks reading)

-- why a text that was printed before was not pushed
abbrev pub ShowStops : Option (List ℕ) → Option (List ℕ) → List ℕ → (out_rose : Type 0) → Stop → Type 0
ShowStops out out_now text out_rose CannotWrite = TookFront out out_now text × out_rose
ShowStops out out_now text out_rose NoMemory = out_now ≡ out
ShowStops out out_now text out_rose _ = ⊥

-- the sink took a text of which this holds
pub record Showed (Is : List ℕ → Type 0) (out out_now : Option (List ℕ)) : Type 0 where
  pub text : List ℕ
  pub is : Is text
  pub took : out_now ≡ with_back out text

-- it took a front of such a text
pub record ShowedSome (Is : List ℕ → Type 0) (out out_now : Option (List ℕ)) : Type 0 where
  pub text : List ℕ
  pub is : Is text
  pub took : TookFront out out_now text

-- why such a text was not pushed
abbrev pub TextStops : (List ℕ → Type 0) → Option (List ℕ) → Option (List ℕ) → (out_rose : Type 0) → Stop → Type 0
TextStops Is out out_now out_rose CannotWrite = ShowedSome Is out out_now × out_rose
TextStops Is out out_now out_rose NoMemory = out_now ≡ out
TextStops Is out out_now out_rose _ = ⊥

-- a report, or what stands in its place, that is not too long
abbrev pub IsShortReport : Shapes → table.Policy → List ℕ → Type 0
IsShortReport shapes policy text = IsReported shapes policy text × IsShort shapes policy

-- why there is none
abbrev pub NotReported : Shapes → table.Policy → Stop → Type 0
NotReported shapes policy (TooLong Report) = IsLong shapes policy
NotReported shapes policy NoMemory = ⊤
NotReported shapes policy _ = ⊥

-- why it was not pushed
abbrev pub ReportStops : Shapes → table.Policy → Option (List ℕ) → Option (List ℕ) → (out_rose : Type 0) → Stop → Type 0
ReportStops shapes policy out out_now out_rose (TooLong Report) = IsLong shapes policy × (out_now ≡ out)
ReportStops shapes policy out out_now out_rose CannotWrite = ShowedSome (IsShortReport shapes policy) out out_now × out_rose
ReportStops shapes policy out out_now out_rose NoMemory = out_now ≡ out
ReportStops shapes policy out out_now out_rose _ = ⊥
