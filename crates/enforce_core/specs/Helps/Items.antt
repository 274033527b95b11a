-- What an item comes to that is done at a desk.
use Rattle.std.specs.Prelude.{Result, Ok, Err}
use Rattle.desk_session.specs.Steps.{IsStopped}
use Rattle.policy_desk.specs.Desks.{Work}
use Rattle.script_read.specs.Said.{Said}
use Rattle.enforce_core.specs.Called.{IsDone, IsTold}
use Rattle.enforce_core.specs.declared.stops.CallStop.{CallStop}
use Rattle.enforce_core.specs.declared.stops.CallStop.TheVariants as stop
use Rattle.enforce_core.specs.declared.stops.Called.{Called}

-- by cases on the answer
abbrev pub DoesItem : Said → (old new : Work) → Result Called CallStop → Type 0
DoesItem item old new (Ok called) = IsTold old new item called
DoesItem item old new (Err stop.NoMemory) = IsStopped old new
DoesItem item old new (Err stop.Untold) = IsDone old new item
DoesItem item old new (Err _) = ⊥
