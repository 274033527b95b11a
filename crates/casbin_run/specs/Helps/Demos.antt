-- How the demonstration ends, by what the sinks took.
use Rattle.std.specs.Prelude.{◌≡◌, ℕ}
use Rattle.demo_run.specs.Demo.{IsDemo}
use Rattle.outside.specs.Faults.{Rose}
use Rattle.run_status.specs.Messages.{line_of}
use Rattle.run_status.specs.Told.{IsTold}
use Rattle.run_status.specs.declared.status.Status.{Status}
use Rattle.run_status.specs.declared.status.Status.TheVariants.{Done, NoMemory, WriteFault}
use Rattle.run_status.specs.declared.stop.Stop.TheVariants as stop
use Rattle.loaded_work.specs.Helps.TaskSteps.{Showed, ShowedSome}
use Rattle.loaded_work.specs.Sinks.{Taken}

abbrev pub DemoEnds : (count workers : ℕ) → (out out_now err err_now : Taken) → Status → Type 0
DemoEnds count workers out out_now err err_now Done = Showed (IsDemo count workers) out.bytes out_now.bytes × (err_now.bytes ≡ err.bytes)
DemoEnds count workers out out_now err err_now WriteFault = ShowedSome (IsDemo count workers) out.bytes out_now.bytes × Rose out.faults out_now.faults × IsTold err.bytes err_now.bytes err.faults err_now.faults (line_of stop.CannotWrite)
DemoEnds count workers out out_now err err_now NoMemory = (out_now.bytes ≡ out.bytes) × IsTold err.bytes err_now.bytes err.faults err_now.faults (line_of stop.NoMemory)
DemoEnds count workers out out_now err err_now _ = ⊥
