-- How a run ends whose words ask for the demonstration.
use Rattle.std.specs.Prelude.{◌≡◌, ◌==◌, ◌||◌, ℕ, Bool, not, false, List, MatchOption, None, Option, Some}
use Rattle.std.specs.Option.{option_and_then, option_map_or}
use Rattle.command_words.specs.Commands.{command_of}
use Rattle.command_words.specs.declared.command.Command.{Command}
use Rattle.command_words.specs.declared.command.Command.TheVariants as command
use Rattle.demo_run.specs.Demo.{IsDemo}
use Rattle.outside.specs.Told.{TookFront, with_back}
use Rattle.run_status.specs.Messages.{line_of}
use Rattle.run_status.specs.Told.{IsTold}
use Rattle.run_status.specs.declared.status.Status.{Status}
use Rattle.run_status.specs.declared.status.Status.TheVariants.{Done, NoMemory, WriteFault}
use Rattle.run_status.specs.declared.stop.Stop.TheVariants as stop
use Rattle.casbin_run.specs.Ends.{Ends}
use Rattle.casbin_run.specs.Given.{Given}
use Rattle.casbin_run.specs.Jobs.{ask_for_workers}
use Rattle.casbin_run.specs.Worlds.{OutRose, World}
use Rattle.loaded_work.specs.Sinks.{Taken}

-- the size of the demonstration, and how many workers it has
abbrev pub demo_of : Command → Option (ℕ × ℕ)
demo_of (command.Demo count workers) = Some (count, workers)
demo_of _ = None

-- those that words ask for
abbrev pub demo_asked : List (List ℕ) → Option (ℕ × ℕ)
demo_asked words = option_and_then demo_of (command_of words)

-- the words ask for workers, in a session or in the demonstration
abbrev pub some_workers : List (List ℕ) → Bool
some_workers words = ask_for_workers words || option_map_or (λ (demo : ℕ × ℕ). not (demo.1 == 0)) (demo_asked words) false

-- `out` took the summary, or a front of it
pub record ToldDemo (count workers : ℕ) (before now : World) : Type 0 where
  pub text : List ℕ
  pub is : IsDemo count workers text
  pub took : now.out.bytes ≡ with_back before.out.bytes text

pub record ToldSome (count workers : ℕ) (before now : World) : Type 0 where
  pub text : List ℕ
  pub is : IsDemo count workers text
  pub took : TookFront before.out.bytes now.out.bytes text

-- the demonstration was done, or `out` failed, or memory ran out before anything was pushed
abbrev pub EndsDemo : (count workers : ℕ) → World → World → Taken → Taken → Status → Type 0
EndsDemo count workers before now err err_now Done = ToldDemo count workers before now × (err_now.bytes ≡ err.bytes)
EndsDemo count workers before now err err_now WriteFault = ToldSome count workers before now × OutRose before now × IsTold err.bytes err_now.bytes err.faults err_now.faults (line_of stop.CannotWrite)
EndsDemo count workers before now err err_now NoMemory = (now.out.bytes ≡ before.out.bytes) × IsTold err.bytes err_now.bytes err.faults err_now.faults (line_of stop.NoMemory)
EndsDemo count workers before now err err_now _ = ⊥

-- the one or the other; a demonstration asks nothing of the shelf
abbrev pub EndsAs : Given → World → World → Taken → Taken → Status → Type 0
EndsAs g before now err err_now status = MatchOption (demo_asked g.words) (Ends g before now err err_now status) (λ demo. (now.shelf ≡ before.shelf) × EndsDemo demo.0 demo.1 before now err err_now status)
