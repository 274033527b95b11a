-- What a task comes to over what was read of its files, with one finder or with all.
use Rattle.std.specs.Prelude.{◌≡◌, ◌⊎◌, ℕ, ◌<◌, Bool, true, false, List, Option, Result, Ok, Err, IfSome, length, take}
use Rattle.log_ship.specs.declared.packet.Packet.{Packet}
use Rattle.model_conf.specs.ModelText.{ModelParts}
use Rattle.outside.specs.Told.{TookFront, with_back}
use Rattle.perm_base.specs.declared.shapes.Shapes.{Shapes}
use Rattle.policy_table.specs.Tables as table
use Rattle.run_status.specs.Parts.{limit_of}
use Rattle.run_status.specs.Statuses.{status_of}
use Rattle.run_status.specs.declared.part.Part.TheVariants.{Input, Report}
use Rattle.run_status.specs.declared.stop.Stop.{Stop}
use Rattle.run_status.specs.declared.stop.Stop.TheVariants.{NoScript, NoPackets, CannotRead, CannotWrite, TooLong, NoMemory}
use Rattle.script_read.specs.Said.{Said}
use Rattle.session_meaning.specs.Plain.{all_refused}
use Rattle.loaded_work.specs.declared.loaded.Loaded.{Loaded}
use Rattle.casbin_run.specs.declared.job.Task.{Task}
use Rattle.casbin_run.specs.Causes.{HasFault, HasPacketFault, OfInput}
use Rattle.casbin_run.specs.Ends.{has_read, may_write}
use Rattle.casbin_run.specs.Given.{InputIs, SaysItems, SaysPackets}
use Rattle.loaded_work.specs.Texts.{joined}
use Rattle.loaded_work.specs.Sinks.{Taken}
use Rattle.casbin_run.specs.Written.{HasRoom, IsTooLong, Tells, Writes}

-- what a task is done on
pub record Ground : Type 0 where
  pub task : Task
  pub model : ModelParts
  pub shapes : Shapes
  pub policy : table.Policy
  pub input : Option (List ℕ)

abbrev pub ground : Task → Loaded → Option (List ℕ) → Ground
ground task loaded input = record { task = task; model = loaded.model; shapes = loaded.shapes; policy = loaded.tables.policy; input = input }

-- the text of a task, and what of all that was refused for it, one after the other, holds
pub record Worked (on : Ground) (IsLogged : List (List ℕ) → Type 0) : Type 0 where
  pub items : List Said
  pub packets : List Packet
  pub refused : List (List (List ℕ))
  pub pieces : List (List ℕ)
  pub text : List ℕ
  pub says : SaysItems on.task on.input items
  pub carries : SaysPackets on.task on.input packets
  pub room : HasRoom on.task on.shapes on.policy
  pub writes : Writes on.task on.model on.shapes on.policy items packets refused pieces text
  pub logged : IsLogged (all_refused refused)

-- the sink took the task's text, a front of it, or the first so many of its pieces
pub record DidAll (on : Ground) (IsLogged : List (List ℕ) → Type 0) (out out_now : Option (List ℕ)) (err err_now : Taken) : Type 0 where
  pub worked : Worked on IsLogged
  pub took : out_now ≡ with_back out worked.text
  pub told : Tells on.task on.model on.shapes on.policy worked.items worked.refused worked.text err err_now

-- the same, but for what `err` took
pub record DidWrite (on : Ground) (IsLogged : List (List ℕ) → Type 0) (out out_now : Option (List ℕ)) : Type 0 where
  pub worked : Worked on IsLogged
  pub took : out_now ≡ with_back out worked.text

pub record DidSome (on : Ground) (IsLogged : List (List ℕ) → Type 0) (out out_now : Option (List ℕ)) : Type 0 where
  pub worked : Worked on IsLogged
  pub took : TookFront out out_now worked.text

pub record DidFirst (on : Ground) (IsLogged : List (List ℕ) → Type 0) (out out_now : Option (List ℕ)) : Type 0 where
  pub worked : Worked on IsLogged
  pub count : ℕ
  pub took : out_now ≡ with_back out (joined (take count worked.pieces))

-- why the task was not done, by cases on the stop
abbrev pub WorkStops : Ground → (List (List ℕ) → Type 0) → Option (List ℕ) → Option (List ℕ) → (input_rose out_rose : Type 0) → Stop → Type 0
WorkStops on IsLogged out out_now input_rose out_rose (CannotRead Input) = OfInput on.task input_rose
WorkStops on IsLogged out out_now input_rose out_rose (TooLong Input) = OfInput on.task (IfSome on.input (λ bytes. limit_of Input < length bytes))
WorkStops on IsLogged out out_now input_rose out_rose (TooLong Report) = IsTooLong on.task on.shapes on.policy
WorkStops on IsLogged out out_now input_rose out_rose (NoScript fault) = OfInput on.task (InputIs on.input (λ bytes. HasFault on.task bytes fault))
WorkStops on IsLogged out out_now input_rose out_rose (NoPackets fault) = OfInput on.task (InputIs on.input (λ bytes. HasPacketFault on.task bytes fault))
WorkStops on IsLogged out out_now input_rose out_rose CannotWrite = DidSome on IsLogged out out_now × out_rose
WorkStops on IsLogged out out_now input_rose out_rose NoMemory = (out_now ≡ out) ⊎ DidFirst on IsLogged out out_now
WorkStops on IsLogged out out_now input_rose out_rose _ = ⊥

-- with such a stop nothing goes to `out`, and no finder is asked
abbrev pub IsQuiet : Stop → Type 0
IsQuiet stop = may_write (status_of stop) ≡ false

-- behind such a result an input that is read was read to its end
abbrev pub is_past : {X : Type 0} → Result X Stop → Bool
is_past (Ok x) = true
is_past (Err stop) = has_read (status_of stop)
