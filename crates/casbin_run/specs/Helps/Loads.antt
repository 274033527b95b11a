-- Why a part of a run was not read, by cases on the stop.
use Rattle.std.specs.Prelude.{ℕ, ◌<◌, List, Option, IfSome, length, ⊤}
use Rattle.outside.specs.Files.{Files}
use Rattle.outside.specs.declared.fetch_log.FetchCall.{FetchCall}
use Rattle.run_status.specs.Parts.{limit_of}
use Rattle.run_status.specs.declared.part.Part.TheVariants.{Input}
use Rattle.run_status.specs.declared.stop.Stop.{Stop}
use Rattle.run_status.specs.declared.stop.Stop.TheVariants.{NoScript, NoPackets, CannotRead, TooLong, NoMemory}
use Rattle.loaded_work.specs.declared.loaded.Loaded.{Loaded}
use Rattle.run_files.specs.Loads as run
use Rattle.casbin_run.specs.declared.job.Job.{Job}
use Rattle.casbin_run.specs.declared.job.Task.{Task}
use Rattle.casbin_run.specs.Causes.{HasFault, HasPacketFault}
use Rattle.casbin_run.specs.Given.{InputIs}

-- the files of a job are loaded so, or not
abbrev pub IsLoaded : Option Files → Job → Loaded → Type 0
IsLoaded files job loaded = run.IsLoaded files job.files job.options loaded

abbrev pub LoadStops : Option Files → Job → (told : List FetchCall → Type 0) → (rose : Type 0) → Stop → Type 0
LoadStops files job told rose stop = run.LoadStops files job.files job.options told rose stop

-- the bytes of the input were not read
abbrev pub BytesStop : Option (List ℕ) → (rose : Type 0) → Stop → Type 0
BytesStop input rose (CannotRead Input) = rose
BytesStop input rose (TooLong Input) = IfSome input (λ bytes. limit_of Input < length bytes)
BytesStop input rose NoMemory = ⊤
BytesStop input rose _ = ⊥

-- the input was not read
abbrev pub InputStops : Task → Option (List ℕ) → (rose : Type 0) → Stop → Type 0
InputStops task input rose (CannotRead Input) = rose
InputStops task input rose (TooLong Input) = IfSome input (λ bytes. limit_of Input < length bytes)
InputStops task input rose (NoScript fault) = InputIs input (λ bytes. HasFault task bytes fault)
InputStops task input rose (NoPackets fault) = InputIs input (λ bytes. HasPacketFault task bytes fault)
InputStops task input rose NoMemory = ⊤
InputStops task input rose _ = ⊥
