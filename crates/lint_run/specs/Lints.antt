-- What a lint is done on, what it writes, and the status that its findings give.
use Rattle.std.specs.Prelude.{◌≡◌, ℕ, ◌+◌, ◌≤◌, Bool, false, List, [], ◌∷◌, ◌++◌, Option, Some, None, Ok, Err, codes, length}
use Rattle.std.specs.Option.{option_and_then}
use Rattle.std.specs.Str.{bytes_eq}
use Rattle.command_words.specs.Commands.{command_of}
use Rattle.command_words.specs.declared.command.Command.{Command}
use Rattle.command_words.specs.declared.command.Command.TheVariants as command
use Rattle.command_words.specs.declared.command.Options.{Options}
use Rattle.file_lint.specs.Findings.{count_line, count_of, finding_lines}
use Rattle.file_lint.specs.ModelErrors.{LintsModel}
use Rattle.file_lint.specs.PolicyErrors.{LintsPolicy}
use Rattle.file_lint.specs.declared.finding.Finding.{Finding}
use Rattle.file_lint.specs.declared.finding.Level.TheVariants.{Error, Warning}
use Rattle.model_conf.specs.ModelText.{ModelParts}
use Rattle.model_conf.specs.Shapes.{first_absent, shapes_of}
use Rattle.model_conf.specs.declared.fault.ModelFault.{ModelFault}
use Rattle.outside.specs.Files.{Files, Holds}
use Rattle.perm_base.specs.declared.shapes.Shapes.{Shapes}
use Rattle.policy_csv.specs.declared.fault.PolicyFault.{PolicyFault}
use Rattle.run_status.specs.Parts.{limit_of}
use Rattle.run_status.specs.Statuses.{status_of}
use Rattle.run_status.specs.declared.part.Part.{Part}
use Rattle.run_status.specs.declared.part.Part.TheVariants.{Model, Policy}
use Rattle.run_status.specs.declared.status.Status.{Status}
use Rattle.run_status.specs.declared.status.Status.TheVariants.{Done}
use Rattle.run_status.specs.declared.stop.Stop.TheVariants.{NoModel, NoPolicy}
use Rattle.lint_run.specs.declared.job.LintJob.{LintJob}

-- what a lint is done on
abbrev pub lint_of : Command → Option LintJob
lint_of (command.Lint files options) = Some (record { files = files; options = options })
lint_of _ = None

-- what the words ask for, where they ask for a lint
abbrev pub lint_asked : List (List ℕ) → Option LintJob
lint_asked words = option_and_then lint_of (command_of words)

-- the words ask for a lint, in order or not: the first is the name of the command
abbrev pub is_to_lint : List (List ℕ) → Bool
is_to_lint [] = false
is_to_lint (name ∷ others) = bytes_eq name (codes "lint")

-- the shapes of the model's policies with these options
abbrev pub shapes_with : Options → ModelParts → Shapes
shapes_with options model = shapes_of model options.names options.domains options.limit

-- the first relation or domain column that options name and the model lacks
abbrev pub absent_in : Options → ModelParts → Option ℕ
absent_in options model = first_absent model.relations options.names options.domains

-- the file of that name has at most as many bytes as the part may have, and the fact holds of them
abbrev pub FileIs : Option Files → List ℕ → Part → (List ℕ → Type 0) → Type 0
FileIs files name part fact = (bytes : List ℕ) × Holds files name bytes × (length bytes ≤ limit_of part) × fact bytes

-- the line of each finding, those of the model first, and how many there are
abbrev pub lint_text : LintJob → List Finding → List Finding → List ℕ
lint_text job model policy =
    finding_lines job.files.model model ++ finding_lines job.files.policy policy
    ++ count_line (count_of Error model + count_of Error policy) (count_of Warning model + count_of Warning policy)

-- the status by the first fault of a policy
abbrev pub policy_end : Option PolicyFault → Status
policy_end None = Done
policy_end (Some first) = status_of (NoPolicy first)

-- what the files of a lint come to: the text that tells their findings, and the status, which is the one that `enforce` ends with for them
pub data Lints (files : Option Files) (job : LintJob) (text : List ℕ) (status : Status) : Type 0 where
  model_alone : (first : ModelFault) (found : List Finding) → FileIs files job.files.model Model (λ bytes. LintsModel bytes (Err first) found) → text ≡ lint_text job found []
      → status ≡ status_of (NoModel first) → Lints files job text status
  both : (model : ModelParts) (first : Option PolicyFault) (found others : List Finding) → FileIs files job.files.model Model (λ bytes. LintsModel bytes (Ok model) found)
      → absent_in job.options model ≡ None → FileIs files job.files.policy Policy (λ bytes. LintsPolicy model (shapes_with job.options model) bytes first others)
      → text ≡ lint_text job found others → status ≡ policy_end first → Lints files job text status
