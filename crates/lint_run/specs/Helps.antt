-- What the steps of a lint come to; only private functions cite this.
use Rattle.std.specs.Prelude.{◌≡◌, ◌⊎◌, ℕ, ◌<◌, ⊤, List, Option, Some, None, length}
use Rattle.command_words.specs.declared.command.Options.{Options}
use Rattle.file_lint.specs.PolicyErrors.{LintsPolicy}
use Rattle.file_lint.specs.declared.finding.Finding.{Finding}
use Rattle.model_conf.specs.ModelText.{IsModel, ModelParts}
use Rattle.outside.specs.Files.{Files, Lacks, OfFile}
use Rattle.outside.specs.Told.{with_back}
use Rattle.outside.specs.declared.shelf.Fetch.{Fetch}
use Rattle.outside.specs.declared.shelf.Fetch.TheVariants as fetch
use Rattle.policy_csv.specs.declared.fault.PolicyFault.{PolicyFault}
use Rattle.run_status.specs.Parts.{limit_of}
use Rattle.run_status.specs.declared.part.Part.{Part}
use Rattle.run_status.specs.declared.part.Part.TheVariants.{Model, Policy}
use Rattle.run_status.specs.declared.status.Status.{Status}
use Rattle.run_status.specs.declared.stop.Stop.{Stop}
use Rattle.run_status.specs.declared.stop.Stop.TheVariants.{NoRelation, CannotRead, TooLong, NoMemory}
use Rattle.lint_run.specs.Lints.{FileIs, Lints, absent_in, lint_asked, lint_text, policy_end, shapes_with}
use Rattle.lint_run.specs.declared.job.LintJob.{LintJob}
use Rattle.lint_run.specs.declared.run.Linted.{Linted}

-- the stop that comes of a file that was not fetched
abbrev pub fetch_stop : Part → Fetch → Stop
fetch_stop part fetch.Absent = CannotRead part
fetch_stop part fetch.Failed = CannotRead part
fetch_stop part fetch.TooLong = TooLong part
fetch_stop part fetch.NoMemory = NoMemory

-- the file of a part was not fetched; `shelf` says that the shelf failed
abbrev pub FetchStops : Option Files → List ℕ → Part → (shelf : Type 0) → Stop → Type 0
FetchStops files name part shelf (CannotRead p) = (p ≡ part) × (Lacks files name ⊎ shelf)
FetchStops files name part shelf (TooLong p) = (p ≡ part) × OfFile files name (λ bytes. limit_of part < length bytes)
FetchStops files name part shelf NoMemory = ⊤
FetchStops files name part shelf _ = ⊥

-- the options do not fit the model
abbrev pub ShapesStop : Options → ModelParts → Stop → Type 0
ShapesStop options model (NoRelation relation) = absent_in options model ≡ Some relation
ShapesStop options model NoMemory = ⊤
ShapesStop options model _ = ⊥

-- the findings of both files are told by this text and this status
abbrev pub AreLinted : Option Files → LintJob → Linted → Type 0
AreLinted files job linted = Lints files job (lint_text job linted.model.items linted.policy.items) linted.status

-- the model has what the options name, and these are the findings of the policy's file
pub record IsPolicyLinted (files : Option Files) (job : LintJob) (model : ModelParts) (first : Option PolicyFault) (found : List Finding) : Type 0 where
  pub fits : absent_in job.options model ≡ None
  pub finds : FileIs files job.files.policy Policy (λ bytes. LintsPolicy model (shapes_with job.options model) bytes first found)

-- so are those that are kept, and the status is by the first fault
abbrev pub IsPolicyTold : Option Files → LintJob → ModelParts → Linted → Type 0
IsPolicyTold files job model linted = (first : Option PolicyFault) × IsPolicyLinted files job model first linted.policy.items × (linted.status ≡ policy_end first)

-- the policy's file was not linted
abbrev pub PolicyFileStops : Option Files → LintJob → ModelParts → (shelf : Type 0) → Stop → Type 0
PolicyFileStops files job model shelf (NoRelation relation) = absent_in job.options model ≡ Some relation
PolicyFileStops files job model shelf (CannotRead Policy) = (absent_in job.options model ≡ None) × (Lacks files job.files.policy ⊎ shelf)
PolicyFileStops files job model shelf (TooLong Policy) = (absent_in job.options model ≡ None) × OfFile files job.files.policy (λ bytes. limit_of Policy < length bytes)
PolicyFileStops files job model shelf NoMemory = ⊤
PolicyFileStops files job model shelf _ = ⊥

-- the model's file is a model, of which the fact holds
abbrev pub OfModel : Option Files → LintJob → (ModelParts → Type 0) → Type 0
OfModel files job fact = (model : ModelParts) × FileIs files job.files.model Model (λ bytes. IsModel bytes model) × fact model

-- the files were not linted
abbrev pub FilesStop : Option Files → LintJob → (shelf : Type 0) → Stop → Type 0
FilesStop files job shelf (CannotRead Model) = Lacks files job.files.model ⊎ shelf
FilesStop files job shelf (TooLong Model) = OfFile files job.files.model (λ bytes. limit_of Model < length bytes)
FilesStop files job shelf (NoRelation relation) = OfModel files job (λ model. PolicyFileStops files job model shelf (NoRelation relation))
FilesStop files job shelf (CannotRead Policy) = OfModel files job (λ model. PolicyFileStops files job model shelf (CannotRead Policy))
FilesStop files job shelf (TooLong Policy) = OfModel files job (λ model. PolicyFileStops files job model shelf (TooLong Policy))
FilesStop files job shelf NoMemory = ⊤
FilesStop files job shelf _ = ⊥

-- the text of a lint with this status was taken
pub record HasLinted (words : List (List ℕ)) (files : Option Files) (before now : Option (List ℕ)) (status : Status) : Type 0 where
  pub job : LintJob
  pub asked : lint_asked words ≡ Some job
  pub text : List ℕ
  pub lints : Lints files job text status
  pub took : now ≡ with_back before text
