-- The stop that a fault makes.
use Rattle.log_ship.specs.declared.packet_fault.PacketFault.{PacketFault}
use Rattle.log_ship.specs.declared.packet_fault.PacketFault.TheVariants as packet
use Rattle.model_conf.specs.declared.fault.ModelFault.{ModelFault}
use Rattle.model_conf.specs.declared.fault.ModelFault.TheVariants as model
use Rattle.model_conf.specs.declared.shapes.ShapeFault.{ShapeFault}
use Rattle.model_conf.specs.declared.shapes.ShapeFault.TheVariants as shape
use Rattle.policy_csv.specs.declared.fault.PolicyFault.{PolicyFault}
use Rattle.policy_csv.specs.declared.fault.PolicyFault.TheVariants as policy
use Rattle.script_read.specs.declared.fault.ScriptFault.{ScriptFault}
use Rattle.script_read.specs.declared.fault.ScriptFault.TheVariants as script
use Rattle.run_status.specs.declared.stop.Stop.{Stop}
use Rattle.run_status.specs.declared.stop.Stop.TheVariants.{NoModel, NoRelation, NoPolicy, NoScript, NoPackets, NoMemory}

-- a text that is no model, unless memory ran out
abbrev pub model_stop_of : ModelFault → Stop
model_stop_of model.NoMemory = NoMemory
model_stop_of fault = NoModel fault

-- a relation or a domain column that the model lacks, unless memory ran out
abbrev pub shape_stop_of : ShapeFault → Stop
shape_stop_of (shape.NoRelation relation) = NoRelation relation
shape_stop_of shape.NoMemory = NoMemory

-- a text that is no policy, unless memory ran out
abbrev pub policy_stop_of : PolicyFault → Stop
policy_stop_of policy.NoMemory = NoMemory
policy_stop_of fault = NoPolicy fault

-- a text that is no script, unless memory ran out
abbrev pub script_stop_of : ScriptFault → Stop
script_stop_of script.NoMemory = NoMemory
script_stop_of fault = NoScript fault

-- a text that is no packets, unless memory ran out
abbrev pub packet_stop_of : PacketFault → Stop
packet_stop_of packet.NoMemory = NoMemory
packet_stop_of fault = NoPackets fault
