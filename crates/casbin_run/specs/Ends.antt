-- How a run ends, by its status.
use Rattle.std.specs.Prelude.{◌≡◌, Bool, true, false}
use Rattle.run_status.specs.Messages.{line_of}
use Rattle.run_status.specs.Statuses.{status_of}
use Rattle.run_status.specs.Told.{IsTold}
use Rattle.run_status.specs.declared.status.Status.{Status}
use Rattle.run_status.specs.declared.status.Status.TheVariants.{Done, Words, Model, Policy, Script, WriteFault, NoMemory}
use Rattle.run_status.specs.declared.stop.Stop.{Stop}
use Rattle.casbin_run.specs.Answered.{TookAll}
use Rattle.casbin_run.specs.Causes.{EndsBy}
use Rattle.casbin_run.specs.Given.{Given}
use Rattle.casbin_run.specs.Jobs.{shapes_with}
use Rattle.casbin_run.specs.Shown.{ReadsBack}
use Rattle.casbin_run.specs.Reached.{FetchedBoth}
use Rattle.loaded_work.specs.Sinks.{Taken}
use Rattle.casbin_run.specs.Worlds.{World}
use Rattle.casbin_run.specs.Written.{Tells}

-- `out` took the text that answers what is given, each file was fetched once, and what was printed of the files reads back
pub record HasDone (g : Given) (before now : World) : Type 0 where
  pub all : TookAll g before now
  pub fetched : FetchedBoth g before now
  pub back : let order = all.answers.answered.in_order in ReadsBack order.job.task order.model (shapes_with order.job.options order.model) order.policy

-- the run was done, and `err` took what is told of it
pub record IsDone (g : Given) (before now : World) (err err_now : Taken) : Type 0 where
  pub done : HasDone g before now
  pub told : let answers = done.all.answers in let order = answers.answered.in_order in
      Tells order.job.task order.model (shapes_with order.job.options order.model) order.policy order.items answers.refused answers.text err err_now

-- the run stopped: its status and the line that `err` took are those of a stop that had its cause
pub record HasStopped (g : Given) (before now : World) (err err_now : Taken) (status : Status) : Type 0 where
  pub stop : Stop
  pub status_is : status ≡ status_of stop
  pub cause : EndsBy g before now stop
  pub told : IsTold err.bytes err_now.bytes err.faults err_now.faults (line_of stop)

-- how a run with this status ends
abbrev pub Ends : Given → World → World → Taken → Taken → Status → Type 0
Ends g before now err err_now Done = IsDone g before now err err_now
Ends g before now err err_now status = HasStopped g before now err err_now status

-- with any other status nothing goes to `out`
abbrev pub may_write : Status → Bool
may_write Done = true
may_write WriteFault = true
may_write NoMemory = true
may_write _ = false

-- with such a status a command that reads the input has read it to its end: the run was done, or what the input says is at fault, or `out` failed
abbrev pub has_read : Status → Bool
has_read Done = true
has_read Script = true
has_read WriteFault = true
has_read _ = false

-- with such a status the run stopped at its words, at a file's text or at an option
abbrev pub is_of_files : Status → Bool
is_of_files Words = true
is_of_files Model = true
is_of_files Policy = true
is_of_files _ = false
