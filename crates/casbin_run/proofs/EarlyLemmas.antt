-- Stops before the input was read to its end.
use Rattle.std.proofs.Common.{◌≡◌, ℕ, true, false, List, Option, Some, refl, sym, ap, ◌∙◌}
use Rattle.std.specs.Option.{option_map_or}
use Rattle.matcher_read.specs.declared.fault.MatcherFault.TheVariants as matcher
use Rattle.model_conf.specs.declared.fault.ModelFault.TheVariants as model
use Rattle.outside.specs.Files.{Files}
use Rattle.outside.specs.declared.fetch_log.FetchCall.{FetchCall}
use Rattle.policy_csv.specs.declared.fault.PolicyFault.TheVariants as policy
use Rattle.run_status.specs.Statuses.{status_of}
use Rattle.run_status.specs.declared.part.Part.TheVariants.{Model, Policy, Input}
use Rattle.run_status.specs.declared.stop.Stop.{Stop}
use Rattle.run_status.specs.declared.stop.Stop.TheVariants.{NoModel, NoRelation, NoPolicy, CannotRead, TooLong, NoMemory}
use Rattle.casbin_run.specs.Ends.{has_read}
use Rattle.casbin_run.specs.Helps.Loads.{BytesStop, LoadStops}
use Rattle.casbin_run.specs.Jobs.{ask_for_input, job_asked, reads_input}
use Rattle.casbin_run.specs.declared.job.Job.{Job}

-- a file was not read
pub load_early : (files : Option Files) (job : Job) (told : List FetchCall → Type 0) (rose : Type 0) (stop : Stop) → LoadStops files job told rose stop → has_read (status_of stop) ≡ false
load_early files job told rose (CannotRead Model) stops = refl
load_early files job told rose (TooLong Model) stops = refl
load_early files job told rose (NoModel model.TooLong) stops = refl
load_early files job told rose (NoModel (model.Matcher matcher.NoMemory)) stops = refl
load_early files job told rose (NoModel model.NoMemory) stops = refl
load_early files job told rose (NoModel fault) stops = refl
load_early files job told rose (NoRelation relation) stops = refl
load_early files job told rose (CannotRead Policy) stops = refl
load_early files job told rose (TooLong Policy) stops = refl
load_early files job told rose (NoPolicy policy.NoMemory) stops = refl
load_early files job told rose (NoPolicy fault) stops = refl
load_early files job told rose NoMemory stops = refl
load_early files job told rose _ stops = absurd stops

-- the bytes of the input were not read
pub bytes_early : (input : Option (List ℕ)) (rose : Type 0) (stop : Stop) → BytesStop input rose stop → has_read (status_of stop) ≡ false
bytes_early input rose (CannotRead Input) stops = refl
bytes_early input rose (TooLong Input) stops = refl
bytes_early input rose NoMemory stops = refl
bytes_early input rose _ stops = absurd stops

-- words that ask for a job which reads the input ask for that
pub asks_read : (words : List (List ℕ)) (job : Job) → job_asked words ≡ Some job → ask_for_input words ≡ true → reads_input job.task ≡ true
asks_read words job is asks = sym (ap (λ (o : Option Job). option_map_or (λ (j : Job). reads_input j.task) o false) is) ∙ asks
