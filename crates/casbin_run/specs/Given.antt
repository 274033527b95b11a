-- What is given to a run, and what it says, part after part. Where files or an input are not told, some bytes stand for what
-- was read.
use Rattle.std.specs.Prelude.{◌≡◌, ℕ, ◌≤◌, false, List, [], Option, Some, None, length, ⊤}
use Rattle.log_ship.specs.PacketText.{ArePackets}
use Rattle.log_ship.specs.declared.packet.Packet.{Packet}
use Rattle.outside.specs.Files.{Files}
use Rattle.model_conf.specs.ModelText.{ModelParts}
use Rattle.policy_table.specs.Tables as table
use Rattle.run_status.specs.Parts.{limit_of}
use Rattle.run_status.specs.declared.part.Part.TheVariants.{Policy, Input}
pub use Rattle.run_files.specs.Files.{FileIs}
use Rattle.run_files.specs.Files as run
use Rattle.script_read.specs.Said.{Said}
use Rattle.script_read.specs.Script.{IsRequests, IsScript}
use Rattle.casbin_run.specs.declared.job.Job.{Job}
use Rattle.casbin_run.specs.declared.job.Task.{Task}
use Rattle.casbin_run.specs.declared.job.Task.TheVariants.{Enforce, Cached, Explain, Serve, Share, Check, Format, Implicit, Report, Ship, Follow}
use Rattle.casbin_run.specs.Jobs.{job_asked, shapes_with}
use Rattle.casbin_run.specs.Written.{HasRoom}

-- the words, and the files and the input where they are told
pub record Given : Type 0 where
  pub words : List (List ℕ)
  pub files : Option Files
  pub input : Option (List ℕ)

abbrev pub given : List (List ℕ) → Option Files → Option (List ℕ) → Given
given words files input = record { words = words; files = files; input = input }

-- the bytes are those that are told
abbrev pub AreTold : Option (List ℕ) → List ℕ → Type 0
AreTold None bytes = ⊤
AreTold (Some told) bytes = told ≡ bytes

-- the input has at most as many bytes as it may have, and the fact holds of them
abbrev pub InputIs : Option (List ℕ) → (List ℕ → Type 0) → Type 0
InputIs input fact = (bytes : List ℕ) × AreTold input bytes × (length bytes ≤ limit_of Input) × fact bytes

-- the files of a job are this model, which has all that the options name, and this policy
abbrev pub ModelIs : Option Files → Job → ModelParts → Type 0
ModelIs files job model = run.ModelIs files job.files model

abbrev pub ModelSuits : Option Files → Job → ModelParts → Type 0
ModelSuits files job model = run.ModelSuits files job.files job.options model

abbrev pub AreFiles : Option Files → Job → ModelParts → table.Policy → Type 0
AreFiles files job model policy = run.AreFiles files job.files job.options model policy

-- the input says these items: requests alone, or a script; none where it is not read
abbrev pub SaysItems : Task → Option (List ℕ) → List Said → Type 0
SaysItems (Enforce json) input items = InputIs input (λ bytes. IsRequests json bytes items)
SaysItems (Cached json capacity) input items = InputIs input (λ bytes. IsRequests json bytes items)
SaysItems (Explain json most) input items = InputIs input (λ bytes. IsRequests json bytes items)
SaysItems (Serve json) input items = InputIs input (λ bytes. IsScript json bytes items)
SaysItems (Share json workers) input items = InputIs input (λ bytes. IsScript json bytes items)
SaysItems Check input items = items ≡ []
SaysItems Format input items = items ≡ []
SaysItems (Implicit subject) input items = items ≡ []
SaysItems Report input items = items ≡ []
SaysItems Ship input items = InputIs input (λ bytes. IsScript false bytes items)
SaysItems Follow input items = items ≡ []

-- the input says these packets; none where it is no text of packets
abbrev pub SaysPackets : Task → Option (List ℕ) → List Packet → Type 0
SaysPackets (Enforce json) input packets = packets ≡ []
SaysPackets (Cached json capacity) input packets = packets ≡ []
SaysPackets (Explain json most) input packets = packets ≡ []
SaysPackets (Serve json) input packets = packets ≡ []
SaysPackets (Share json workers) input packets = packets ≡ []
SaysPackets Check input packets = packets ≡ []
SaysPackets Format input packets = packets ≡ []
SaysPackets (Implicit subject) input packets = packets ≡ []
SaysPackets Report input packets = packets ≡ []
SaysPackets Ship input packets = packets ≡ []
SaysPackets Follow input packets = InputIs input (λ bytes. ArePackets bytes packets)

-- the words ask for this, files and input are in order, and what is written is not too long
pub record IsInOrder (g : Given) : Type 0 where
  pub job : Job
  pub model : ModelParts
  pub policy : table.Policy
  pub items : List Said
  pub packets : List Packet
  pub asked : job_asked g.words ≡ Some job
  pub are_files : AreFiles g.files job model policy
  pub says : SaysItems job.task g.input items
  pub carries : SaysPackets job.task g.input packets
  pub room : HasRoom job.task (shapes_with job.options model) policy
