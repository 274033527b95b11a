-- Why a run stops.
use Rattle.std.specs.Prelude.{◌≡◌, ◌⊎◌, ◌<◌, Bool, true, false, List, ℕ, Some, None, IfSome, IsUtf8, length}
use Rattle.log_ship.specs.PacketText.{IsPacketFault}
use Rattle.log_ship.specs.declared.packet_fault.PacketFault.{PacketFault}
use Rattle.outside.specs.Files.{Lacks, OfFile}
use Rattle.model_conf.specs.Faults.{IsModelFault}
use Rattle.policy_csv.specs.Faults.{IsPolicyFault}
use Rattle.run_status.specs.Parts.{limit_of}
use Rattle.run_status.specs.declared.part.Part.TheVariants as part
use Rattle.run_status.specs.declared.part.Part.TheVariants.{Model, Policy, Input}
use Rattle.run_status.specs.declared.stop.Stop.{Stop}
use Rattle.run_status.specs.declared.stop.Stop.TheVariants.{Words, NoModel, NoRelation, NoPolicy, NoScript, NoPackets, CannotRead, CannotWrite, TooLong, NoMemory}
use Rattle.script_read.specs.Script.{IsScriptFault}
use Rattle.script_read.specs.declared.fault.ScriptFault.{ScriptFault}
use Rattle.script_read.specs.declared.fault.ScriptFault.TheVariants.{NotUtf8}
use Rattle.casbin_run.specs.declared.job.Task.{Task}
use Rattle.casbin_run.specs.declared.job.Task.TheVariants.{Enforce, Cached, Explain, Serve, Share, Check, Format, Implicit, Report, Ship, Follow}
use Rattle.casbin_run.specs.Answered.{TookFirst, TookSome}
use Rattle.casbin_run.specs.Given.{FileIs, Given, InputIs}
use Rattle.casbin_run.specs.Jobs.{absent_in, job_asked, reads_input, shapes_with}
use Rattle.casbin_run.specs.Reached.{HasAsked, IsReached, Reached, at_words, at_model, at_options, at_policy, at_task}
use Rattle.casbin_run.specs.Worlds.{InputRose, OutRose, ShelfRose, World}
use Rattle.casbin_run.specs.Written.{IsTooLong}

-- the input that a task reads has this fault
abbrev pub HasFault : Task → List ℕ → ScriptFault → Type 0
HasFault (Enforce json) bytes fault = ¬ (IsUtf8 bytes) × (fault ≡ NotUtf8)
HasFault (Cached json capacity) bytes fault = ¬ (IsUtf8 bytes) × (fault ≡ NotUtf8)
HasFault (Explain json most) bytes fault = ¬ (IsUtf8 bytes) × (fault ≡ NotUtf8)
HasFault (Serve json) bytes fault = IsScriptFault json bytes fault
HasFault (Share json workers) bytes fault = IsScriptFault json bytes fault
HasFault Check bytes fault = ⊥
HasFault Format bytes fault = ⊥
HasFault (Implicit subject) bytes fault = ⊥
HasFault Report bytes fault = ⊥
HasFault Ship bytes fault = IsScriptFault false bytes fault
HasFault Follow bytes fault = ⊥

-- the packets that a task takes have this fault
abbrev pub HasPacketFault : Task → List ℕ → PacketFault → Type 0
HasPacketFault Follow bytes fault = IsPacketFault bytes fault
HasPacketFault _ bytes fault = ⊥

-- the task reads the input, of which the fact holds
abbrev pub OfInput : Task → Type 0 → Type 0
OfInput task fact = (reads_input task ≡ true) × fact

-- what is given stops a run that came so far
abbrev pub StopsAt : Given → Reached → Stop → Type 0
StopsAt g at_words Words = job_asked g.words ≡ None
StopsAt g (at_model job) (CannotRead Model) = Lacks g.files job.files.model
StopsAt g (at_model job) (TooLong Model) = OfFile g.files job.files.model (λ bytes. limit_of Model < length bytes)
StopsAt g (at_model job) (NoModel fault) = FileIs g.files job.files.model Model (λ bytes. IsModelFault bytes fault)
StopsAt g (at_options job model) (NoRelation relation) = absent_in job.options model ≡ Some relation
StopsAt g (at_policy job model) (CannotRead Policy) = Lacks g.files job.files.policy
StopsAt g (at_policy job model) (TooLong Policy) = OfFile g.files job.files.policy (λ bytes. limit_of Policy < length bytes)
StopsAt g (at_policy job model) (NoPolicy fault) = FileIs g.files job.files.policy Policy (λ bytes. IsPolicyFault (shapes_with job.options model) bytes fault)
StopsAt g (at_task job model policy) (TooLong Input) = OfInput job.task (IfSome g.input (λ bytes. limit_of Input < length bytes))
StopsAt g (at_task job model policy) (NoScript fault) = OfInput job.task (InputIs g.input (λ bytes. HasFault job.task bytes fault))
StopsAt g (at_task job model policy) (NoPackets fault) = OfInput job.task (InputIs g.input (λ bytes. HasPacketFault job.task bytes fault))
StopsAt g (at_task job model policy) (TooLong part.Report) = IsTooLong job.task (shapes_with job.options model) policy
StopsAt g _ _ = ⊥

-- the outside stops it: the shelf or the input failed; `out` failed, after it took a front of the text; or memory ran out, before anything was pushed, or after the first pieces of the text were
abbrev pub FailsAt : Given → World → World → Reached → Stop → Type 0
FailsAt g before now (at_model job) (CannotRead Model) = ShelfRose before now
FailsAt g before now (at_policy job model) (CannotRead Policy) = ShelfRose before now
FailsAt g before now (at_task job model policy) (CannotRead Input) = OfInput job.task (InputRose before now)
FailsAt g before now (at_task job model policy) CannotWrite = TookSome g before now × OutRose before now
FailsAt g before now (at_task job model policy) NoMemory = (now.out.bytes ≡ before.out.bytes) ⊎ TookFirst g before now
FailsAt g before now _ NoMemory = now.out.bytes ≡ before.out.bytes
FailsAt g before now _ _ = ⊥

-- what is given causes this stop
abbrev pub Cause : Given → Stop → Type 0
Cause g stop = (reached : Reached) × IsReached g reached × StopsAt g reached stop

-- with such a stop by the outside the last fetch failed
abbrev pub is_of_shelf : Stop → Bool
is_of_shelf (CannotRead Model) = true
is_of_shelf (CannotRead Policy) = true
is_of_shelf _ = false

-- one of both, there, and no more was asked of the shelf and the input
pub record EndsBy (g : Given) (before now : World) (stop : Stop) : Type 0 where
  pub reached : Reached
  pub is_reached : IsReached g reached
  pub why : (StopsAt g reached stop × HasAsked before now reached false) ⊎ (FailsAt g before now reached stop × HasAsked before now reached (is_of_shelf stop))
