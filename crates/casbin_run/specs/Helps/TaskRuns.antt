-- What is done on which files, and what doing what the words ask for comes to.
use Rattle.std.specs.Prelude.{◌≡◌, ◌≤◌, ℕ, true, false, List, [], Option, Result, IfErr, IfSome, OnErr, OnOk}
use Rattle.outside.specs.Ends.{IsEndedOnce, ends_after}
use Rattle.command_words.specs.FileNames.{FileNames}
use Rattle.command_words.specs.declared.command.Options.{Options}
use Rattle.run_status.specs.declared.stop.Stop.{Stop}
use Rattle.casbin_run.specs.declared.job.Job.{Job}
use Rattle.casbin_run.specs.declared.job.Task.{Task}
use Rattle.casbin_run.specs.Causes.{EndsBy}
use Rattle.casbin_run.specs.Ends.{IsDone}
use Rattle.casbin_run.specs.Finders.{AreUsed}
use Rattle.casbin_run.specs.Given.{Given}
use Rattle.casbin_run.specs.Helps.Tasks.{IsQuiet, is_past}
use Rattle.casbin_run.specs.Jobs.{ask_for_input, ask_for_workers}
use Rattle.loaded_work.specs.Sinks.{Taken}
use Rattle.casbin_run.specs.Worlds.{World}

-- a task on these files
abbrev pub job_on : FileNames → Option Options → Task → Job
job_on files options task = record { files = files; options = options; task = task }

-- `out` took the text that answers what is given, or there is a cause of the stop; the input was read to its end or not at all
pub record ComesTo (g : Given) (before now : World) (err err_now : Taken) (result : Result (Unit {0}) Stop) : Type 0 where
  pub done : OnOk result (IsDone g before now err err_now)
  pub stopped : IfErr result (EndsBy g before now)
  pub silent : OnErr result (err_now ≡ err)
  pub err_counted : err.faults ≤ err_now.faults
  pub quiet : IfErr result (λ (stop : Stop). IsQuiet stop → now.out.bytes ≡ before.out.bytes)
  pub read_to_end : is_past result ≡ true → ask_for_input g.words ≡ true → IfSome now.input.left (λ (rest : List ℕ). rest ≡ [])
  pub ended : is_past result ≡ true → ask_for_input g.words ≡ true → now.input.ends ≡ ends_after before.input.ends true
  pub no_further : IsEndedOnce before.input.ends now.input.ends
  pub unread : ask_for_input g.words ≡ false → now.input ≡ before.input
  pub shelf_counted : before.shelf.faults ≤ now.shelf.faults
  pub input_counted : before.input.faults ≤ now.input.faults
  pub out_counted : before.out.faults ≤ now.out.faults
  pub finders : AreUsed (ask_for_workers g.words) before.finders now.finders
