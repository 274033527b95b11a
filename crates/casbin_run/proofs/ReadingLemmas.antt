-- Why an input is not read, from the fault of its reader.
use Rattle.std.proofs.Common.{◌≡◌, ◌≢◌, ℕ, Bool, List, subst, sym}
use Rattle.std.specs.Prelude.{Option}
use Rattle.log_ship.specs.PacketText.{IsPacketFault}
use Rattle.log_ship.specs.declared.packet_fault.PacketFault.{PacketFault}
use Rattle.log_ship.specs.declared.packet_fault.PacketFault.TheVariants as packet
use Rattle.run_status.specs.Stops.{packet_stop_of, script_stop_of}
use Rattle.script_read.specs.Script.{IsScriptFault}
use Rattle.script_read.specs.declared.fault.ScriptFault.{ScriptFault}
use Rattle.script_read.specs.declared.fault.ScriptFault.TheVariants as script
use Rattle.casbin_run.specs.Given.{InputIs}
use Rattle.casbin_run.specs.Helps.Loads.{InputStops}
use Rattle.casbin_run.specs.declared.job.Task.TheVariants.{Serve, Follow}

pub script_stops : (json : Bool) (input : Option (List ℕ)) (rose : Type 0) (bytes : List ℕ) (e : ScriptFault) → InputIs input (λ told. told ≡ bytes) → (e ≢ script.NoMemory → IsScriptFault json bytes e) → InputStops (Serve json) input rose (script_stop_of e)
script_stops json input rose bytes script.NoMemory is fault = tt
script_stops json input rose bytes e is fault = (is.0, is.1, is.2, subst (λ (told : List ℕ). IsScriptFault json told e) (sym is.3) (fault (λ same. absurd cc)))

pub packet_stops : (input : Option (List ℕ)) (rose : Type 0) (bytes : List ℕ) (e : PacketFault) → InputIs input (λ told. told ≡ bytes) → (e ≢ packet.NoMemory → IsPacketFault bytes e) → InputStops Follow input rose (packet_stop_of e)
packet_stops input rose bytes packet.NoMemory is fault = tt
packet_stops input rose bytes e is fault = (is.0, is.1, is.2, subst (λ (told : List ℕ). IsPacketFault told e) (sym is.3) (fault (λ same. absurd cc)))
