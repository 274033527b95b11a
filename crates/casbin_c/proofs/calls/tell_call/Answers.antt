use Rattle.std.proofs.Common.{subst, sym}
use Rattle.std.specs.Prelude.{Result}
use Rattle.enforce_core.specs.declared.stops.CallStop.{CallStop}
use Rattle.enforce_core.specs.declared.stops.Called.{Called}
use Rattle.casbin_c.specs.Told.{WritesCall}
use Rattle.casbin_c.proofs.calls.tell_call.Goals as goal

pub returns-in-Ok-clause-written : goal.returns-in-Ok-clause-written
returns-in-Ok-clause-written c = subst (λ (called : Result Called CallStop). WritesCall called c.args.line.now c.tell_done.new.line c.tell_done.new.size) (sym c.in-Ok.is) c.tell_done.ensures.written

pub returns-in-Err-clause-written : goal.returns-in-Err-clause-written
returns-in-Err-clause-written c = subst (λ (called : Result Called CallStop). WritesCall called c.args.line.now c.tell_stop.new.line c.tell_stop.new.size) (sym c.in-Err.is) c.tell_stop.ensures.written
