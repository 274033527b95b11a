-- What proofs here and in the crates above cite: that no stop ends with Done, and that a line that was pushed is told.
use Rattle.std.proofs.Common.{◌≡◌, ℕ, List, inl, inr}
use Rattle.std.specs.Prelude.{Option, Result, Ok, Err}
use Rattle.log_ship.specs.declared.packet_fault.PacketFault.{PacketFault}
use Rattle.log_ship.specs.declared.packet_fault.PacketFault.TheVariants as packet
use Rattle.matcher_read.specs.declared.fault.MatcherFault.TheVariants as matcher
use Rattle.model_conf.specs.declared.fault.ModelFault.{ModelFault}
use Rattle.model_conf.specs.declared.fault.ModelFault.TheVariants as model
use Rattle.outside.proofs.CallerLemmas.{pushes_some}
use Rattle.outside.specs.Pushes.{PushesAll}
use Rattle.outside.specs.declared.fault.Failed.{Failed}
use Rattle.policy_csv.specs.declared.fault.PolicyFault.{PolicyFault}
use Rattle.policy_csv.specs.declared.fault.PolicyFault.TheVariants as policy
use Rattle.script_read.specs.declared.fault.ScriptFault.{ScriptFault}
use Rattle.script_read.specs.declared.fault.ScriptFault.TheVariants as script
use Rattle.run_status.specs.Statuses.{model_status, packet_status, policy_status, script_status, status_of}
use Rattle.run_status.specs.Told.{IsTold}
use Rattle.run_status.specs.declared.status.Status.{Status}
use Rattle.run_status.specs.declared.status.Status.TheVariants as status
use Rattle.run_status.specs.declared.stop.Stop.{Stop}
use Rattle.run_status.specs.declared.stop.Stop.TheVariants.{NoModel, NoPolicy, NoScript, NoPackets}

-- a fault of a model has one of three statuses, a fault of a policy, of a script or of packets one of two
model_by : (fault : ModelFault) (P : Status → Type 0) → P status.Model → P status.TooLong → P status.NoMemory → P (model_status fault)
model_by model.TooLong P at_fault too_long no_memory = too_long
model_by (model.Matcher matcher.NoMemory) P at_fault too_long no_memory = no_memory
model_by model.NoMemory P at_fault too_long no_memory = no_memory
model_by _ P at_fault too_long no_memory = at_fault

policy_by : (fault : PolicyFault) (P : Status → Type 0) → P status.Policy → P status.NoMemory → P (policy_status fault)
policy_by policy.NoMemory P at_fault no_memory = no_memory
policy_by _ P at_fault no_memory = at_fault

script_by : (fault : ScriptFault) (P : Status → Type 0) → P status.Script → P status.NoMemory → P (script_status fault)
script_by script.NoMemory P at_fault no_memory = no_memory
script_by _ P at_fault no_memory = at_fault

packet_by : (fault : PacketFault) (P : Status → Type 0) → P status.Script → P status.NoMemory → P (packet_status fault)
packet_by packet.NoMemory P at_fault no_memory = no_memory
packet_by _ P at_fault no_memory = at_fault

-- no stop ends with Done
pub is_never_done : (stop : Stop) → status_of stop ≡ status.Done → ⊥
is_never_done (NoModel fault) e = model_by fault (λ s. s ≡ status.Done → ⊥) (λ d. absurd cc) (λ d. absurd cc) (λ d. absurd cc) e
is_never_done (NoPolicy fault) e = policy_by fault (λ s. s ≡ status.Done → ⊥) (λ d. absurd cc) (λ d. absurd cc) e
is_never_done (NoScript fault) e = script_by fault (λ s. s ≡ status.Done → ⊥) (λ d. absurd cc) (λ d. absurd cc) e
is_never_done (NoPackets fault) e = packet_by fault (λ s. s ≡ status.Done → ⊥) (λ d. absurd cc) (λ d. absurd cc) e
is_never_done _ e = absurd cc

-- a line that was pushed, or a front of it, is told
pub told_by_push : (before now : Option (List ℕ)) (a b : ℕ) (line : List ℕ) (r : Result (Unit {0}) Failed) → PushesAll before now a b line r → IsTold before now a b line
told_by_push before now a b line (Ok u) pushed = record { front = pushes_some before now a b line (Ok u) pushed; whole = inl pushed.took; counted = pushed.counted }
told_by_push before now a b line (Err e) pushed = record { front = pushed.stopped; whole = inr pushed.failed; counted = pushed.counted }
