-- How a lint ends: it is done, or it stops.
use Rattle.std.specs.Prelude.{◌≡◌, ◌⊎◌, ℕ, ◌<◌, List, Option, Some, None, length}
use Rattle.model_conf.specs.ModelText.{IsModel, ModelParts}
use Rattle.outside.specs.Files.{Files, Lacks, OfFile}
use Rattle.outside.specs.Told.{TookFront, with_back}
use Rattle.run_status.specs.Messages.{line_of}
use Rattle.run_status.specs.Parts.{limit_of}
use Rattle.run_status.specs.Statuses.{status_of}
use Rattle.run_status.specs.Told.{IsTold}
use Rattle.run_status.specs.declared.part.Part.TheVariants.{Model, Policy}
use Rattle.run_status.specs.declared.status.Status.{Status}
use Rattle.run_status.specs.declared.stop.Stop.{Stop}
use Rattle.run_status.specs.declared.stop.Stop.TheVariants.{Words, NoRelation, CannotRead, CannotWrite, TooLong, NoMemory}
use Rattle.lint_run.specs.Lints.{FileIs, Lints, absent_in, lint_asked}
use Rattle.lint_run.specs.declared.job.LintJob.{LintJob}

-- the words ask for a lint, and the fact holds of it
abbrev pub OfLint : List (List ℕ) → (LintJob → Type 0) → Type 0
OfLint words fact = (job : LintJob) × (lint_asked words ≡ Some job) × fact job

-- besides, its model's file is a model that has what the options name
abbrev pub OfFitting : List (List ℕ) → Option Files → (LintJob → Type 0) → Type 0
OfFitting words files fact =
    OfLint words (λ job. ((model : ModelParts) × FileIs files job.files.model Model (λ bytes. IsModel bytes model) × (absent_in job.options model ≡ None)) × fact job)

-- why a lint stops; `shelf` and `out` say that these failed
abbrev pub LintStops : List (List ℕ) → Option Files → (shelf out : Type 0) → (before now : Option (List ℕ)) → Stop → Type 0
LintStops words files shelf out before now Words = (lint_asked words ≡ None) × (now ≡ before)
LintStops words files shelf out before now (CannotRead Model) = OfLint words (λ job. Lacks files job.files.model ⊎ shelf) × (now ≡ before)
LintStops words files shelf out before now (TooLong Model) = OfLint words (λ job. OfFile files job.files.model (λ bytes. limit_of Model < length bytes)) × (now ≡ before)
LintStops words files shelf out before now (NoRelation relation) =
    OfLint words (λ job. (model : ModelParts) × FileIs files job.files.model Model (λ bytes. IsModel bytes model) × (absent_in job.options model ≡ Some relation)) × (now ≡ before)
LintStops words files shelf out before now (CannotRead Policy) = OfFitting words files (λ job. Lacks files job.files.policy ⊎ shelf) × (now ≡ before)
LintStops words files shelf out before now (TooLong Policy) = OfFitting words files (λ job. OfFile files job.files.policy (λ bytes. limit_of Policy < length bytes)) × (now ≡ before)
LintStops words files shelf out before now CannotWrite = OfLint words (λ job. (text : List ℕ) × (status : Status) × Lints files job text status × TookFront before now text) × out
LintStops words files shelf out before now NoMemory = now ≡ before
LintStops words files shelf out before now _ = ⊥

-- a lint was done: `out` took its text, and `err` nothing
pub record LintDone (words : List (List ℕ)) (files : Option Files) (before now err err_now : Option (List ℕ)) (faults faults_now : ℕ) (status : Status) : Type 0 where
  pub job : LintJob
  pub asked : lint_asked words ≡ Some job
  pub text : List ℕ
  pub lints : Lints files job text status
  pub took : now ≡ with_back before text
  pub silent : err_now ≡ err
  pub faultless : faults_now ≡ faults

-- it stopped, and `err` took the line of the stop
pub record LintStopped (words : List (List ℕ)) (files : Option Files) (shelf out : Type 0) (before now err err_now : Option (List ℕ)) (faults faults_now : ℕ) (status : Status) : Type 0 where
  pub stop : Stop
  pub why : LintStops words files shelf out before now stop
  pub status_is : status ≡ status_of stop
  pub told : IsTold err err_now faults faults_now (line_of stop)

-- how a lint ends
abbrev pub LintEnds : List (List ℕ) → Option Files → (shelf out : Type 0) → (before now err err_now : Option (List ℕ)) → (faults faults_now : ℕ) → Status → Type 0
LintEnds words files shelf out before now err err_now faults faults_now status =
    LintDone words files before now err err_now faults faults_now status ⊎ LintStopped words files shelf out before now err err_now faults faults_now status
