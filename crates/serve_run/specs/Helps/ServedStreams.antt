-- What serving a stream over a job, and over what its files were opened to, comes to.
use Rattle.std.specs.Prelude.{◌≡◌, ◌⊎◌, ℕ, Bool, false, List, length, Option}
use Rattle.live_serve.specs.Helps.Ended.{at_first}
use Rattle.live_serve.specs.Places.{Standing, is_followers, state_at}
use Rattle.live_serve.specs.Streams.{IsFirst, Service}
use Rattle.model_conf.specs.ModelText.{ModelParts}
use Rattle.outside.specs.Faults.{Rose}
use Rattle.outside.specs.Files.{Files}
use Rattle.outside.specs.Log.{Adds}
use Rattle.policy_state.specs.States.{State, tables}
use Rattle.policy_table.specs.Tables.{Policy}
use Rattle.run_files.specs.Loads.{LoadStops}
use Rattle.serve_run.specs.declared.opened.OpenedFiles.{OpenedFiles}
use Rattle.run_status.specs.Told.{IsTold}
use Rattle.run_status.specs.declared.stop.Stop.{Stop}
use Rattle.run_status.specs.declared.stop.Stop.TheVariants.{NoMemory}
use Rattle.serve_run.specs.Announced.{serving_line}
use Rattle.serve_run.specs.Moments.{AskedShelf, Moment}
use Rattle.serve_run.specs.Services.{IsAnnounced, IsCutOff, IsOpen, IsServed, service_on}
use Rattle.serve_run.specs.declared.words.Job.{Job}

-- over what was opened
abbrev pub opened_service : Job → OpenedFiles → Service
opened_service job opened = record { json = job.json; follow = job.follow; model = opened.program; shapes = opened.state.shapes; opening = tables opened.state }

-- `err` took the line that tells so many rules
abbrev pub Announces : Job → ℕ → Moment → Moment → Type 0
Announces job rules before now = IsTold before.err now.err before.err_faults now.err_faults (serving_line job.files.model rules)

pub record ServedOpened (job : Job) (opened : OpenedFiles) (before now : Moment) : Type 0 where
  pub told : Announces job opened.rules before now
  pub served : IsServed (opened_service job opened) before now

-- memory ran out before anything was told, or the stream was cut off
abbrev pub StopsOpened : Job → OpenedFiles → Moment → Moment → Stop → Type 0
StopsOpened job opened before now stop = ((stop ≡ NoMemory) × (now ≡ before)) ⊎ (Announces job opened.rules before now × IsCutOff (opened_service job opened) before now stop)

-- a clerk who answers over this policy stands at its first item, behind no line
pub record IsReady (state : State) (follow : Bool) (at : Standing) : Type 0 where
  pub kind : is_followers at.place ≡ follow
  pub state_is : state_at at.place ≡ state
  pub first : IsFirst at.place
  pub no_line : at ≡ at_first at.place

-- a job was served to its end
pub record ServedJob (files : Option Files) (job : Job) (before now : Moment) : Type 0 where
  pub model : ModelParts
  pub policy : Policy
  pub opened : IsOpen files job model policy before now
  pub told : IsAnnounced job policy before now
  pub served : IsServed (service_on job model policy) before now

-- why it was not
pub data StopsJob (files : Option Files) (job : Job) (before now : Moment) (stop : Stop) : Type 0 where
  at_files : LoadStops files job.files job.options (Adds before.calls now.calls) (Rose before.shelf_faults now.shelf_faults) stop → AskedShelf before now → StopsJob files job before now stop
  behind_files : (model : ModelParts) (policy : Policy) → IsOpen files job model policy before now → stop ≡ NoMemory → AskedShelf before now → StopsJob files job before now stop
  in_stream : (model : ModelParts) (policy : Policy) → IsOpen files job model policy before now → IsAnnounced job policy before now → IsCutOff (service_on job model policy) before now stop → StopsJob files job before now stop
