-- What a command is done on. A demonstration is none of these: it has no files. Nor is a lint, which stands beside a run.
use Rattle.std.specs.Prelude.{ℕ, ◌<◌, ◌≤◌, ⊤, ◌==◌, Bool, true, false, List, Option, Some, None, if◌then◌else◌}
use Rattle.std.specs.Option.{option_and_then, option_map_or}
use Rattle.command_words.specs.Commands.{command_of}
use Rattle.command_words.specs.declared.command.Command.{Command}
use Rattle.command_words.specs.declared.command.Command.TheVariants as command
pub use Rattle.run_files.specs.Files.{absent_in, domains_in, limit_in, names_in, shapes_with}
use Rattle.casbin_run.specs.declared.job.Job.{Job}
use Rattle.casbin_run.specs.declared.job.Task.{Task}
use Rattle.casbin_run.specs.declared.job.Task.TheVariants.{Enforce, Cached, Explain, Serve, Share, Check, Format, Implicit, Report, Ship, Follow}

-- requests are answered by way of a cache where its size is told
abbrev pub enforcing : Bool → Option ℕ → Task
enforcing json None = Enforce json
enforcing json (Some capacity) = Cached json capacity

-- a script is done on one thread, or by so many workers beside the administrator
abbrev pub serving : Bool → ℕ → Task
serving json workers = if workers == 0 then Serve json else Share json workers

-- what a command is done on
abbrev pub job_of : Command → Option Job
job_of (command.Enforce files options json cache) = Some (record { files = files; options = Some options; task = enforcing json cache })
job_of (command.Explain files options json most) = Some (record { files = files; options = Some options; task = Explain json most })
job_of (command.Session files options json workers) = Some (record { files = files; options = Some options; task = serving json workers })
job_of (command.Check files) = Some (record { files = files; options = None; task = Check })
job_of (command.Format files) = Some (record { files = files; options = None; task = Format })
job_of (command.Implicit files subject options) = Some (record { files = files; options = Some options; task = Implicit subject })
job_of (command.Report files options) = Some (record { files = files; options = Some options; task = Report })
job_of (command.Ship files options) = Some (record { files = files; options = Some options; task = Ship })
job_of (command.Follow files options) = Some (record { files = files; options = Some options; task = Follow })
job_of (command.Lint files options) = None
job_of (command.Demo count workers) = None

-- what the words ask for, where they are a command that is done
abbrev pub job_asked : List (List ℕ) → Option Job
job_asked words = option_and_then job_of (command_of words)

-- the input is read by the commands that answer its items, do them or take its packets
abbrev pub reads_input : Task → Bool
reads_input (Enforce json) = true
reads_input (Cached json capacity) = true
reads_input (Explain json most) = true
reads_input (Serve json) = true
reads_input (Share json workers) = true
reads_input Check = false
reads_input Format = false
reads_input (Implicit subject) = false
reads_input Report = false
reads_input Ship = true
reads_input Follow = true

-- a cache has a size from 1 to 10,000, and there are 1 to 8 workers where there are any
abbrev pub HasSize : Task → Type 0
HasSize (Cached json capacity) = (0 < capacity) × (capacity ≤ 10000)
HasSize (Share json workers) = (0 < workers) × (workers ≤ 8)
HasSize _ = ⊤

-- workers answer the requests of a script
abbrev pub has_workers : Task → Bool
has_workers (Share json workers) = true
has_workers _ = false

-- the words ask for that
abbrev pub ask_for_workers : List (List ℕ) → Bool
ask_for_workers words = option_map_or (λ (job : Job). has_workers job.task) (job_asked words) false

-- the words ask for a command that reads the input
abbrev pub ask_for_input : List (List ℕ) → Bool
ask_for_input words = option_map_or (λ (job : Job). reads_input job.task) (job_asked words) false
