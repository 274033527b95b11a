-- The status that a run ends with.
use Rattle.std.specs.Prelude.{ℕ}
use Rattle.log_ship.specs.declared.packet_fault.PacketFault.{PacketFault}
use Rattle.log_ship.specs.declared.packet_fault.PacketFault.TheVariants as packet
use Rattle.matcher_read.specs.declared.fault.MatcherFault.TheVariants as matcher
use Rattle.model_conf.specs.declared.fault.ModelFault.{ModelFault}
use Rattle.model_conf.specs.declared.fault.ModelFault.TheVariants as model
use Rattle.policy_csv.specs.declared.fault.PolicyFault.{PolicyFault}
use Rattle.policy_csv.specs.declared.fault.PolicyFault.TheVariants as policy
use Rattle.script_read.specs.declared.fault.ScriptFault.{ScriptFault}
use Rattle.script_read.specs.declared.fault.ScriptFault.TheVariants as script
use Rattle.run_status.specs.declared.status.Status.{Status}
use Rattle.run_status.specs.declared.status.Status.TheVariants as status
use Rattle.run_status.specs.declared.stop.Stop.{Stop}
use Rattle.run_status.specs.declared.stop.Stop.TheVariants.{Words, NoModel, NoRelation, NoPolicy, NoScript, NoPackets, CannotRead, CannotWrite, TooLong, NoMemory}

-- a fault of a model; a limit and want of memory have a status of their own
abbrev pub model_status : ModelFault → Status
model_status model.TooLong = status.TooLong
model_status (model.Matcher matcher.NoMemory) = status.NoMemory
model_status model.NoMemory = status.NoMemory
model_status _ = status.Model

-- a fault of a policy
abbrev pub policy_status : PolicyFault → Status
policy_status policy.NoMemory = status.NoMemory
policy_status _ = status.Policy

-- a fault of a script
abbrev pub script_status : ScriptFault → Status
script_status script.NoMemory = status.NoMemory
script_status _ = status.Script

-- a fault of packets
abbrev pub packet_status : PacketFault → Status
packet_status packet.NoMemory = status.NoMemory
packet_status _ = status.Script

-- the status that a stop ends with
abbrev pub status_of : Stop → Status
status_of Words = status.Words
status_of (NoModel fault) = model_status fault
status_of (NoRelation relation) = status.Model
status_of (NoPolicy fault) = policy_status fault
status_of (NoScript fault) = script_status fault
status_of (NoPackets fault) = packet_status fault
status_of (CannotRead part) = status.ReadFault
status_of CannotWrite = status.WriteFault
status_of (TooLong part) = status.TooLong
status_of NoMemory = status.NoMemory

-- the program's exit status
abbrev pub code_of : Status → ℕ
code_of status.Done = 0
code_of status.Words = 2
code_of status.Model = 3
code_of status.Policy = 4
code_of status.Script = 5
code_of status.ReadFault = 6
code_of status.WriteFault = 7
code_of status.TooLong = 8
code_of status.NoMemory = 9
