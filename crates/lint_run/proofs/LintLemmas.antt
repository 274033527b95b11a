-- What the words of a lint ask for, and why a lint stops.
use Rattle.std.proofs.Common.{◌≡◌, ℕ, ◌<◌, ◌≤◌, ◌∙◌, false, List, [], ◌∷◌, Option, Some, None, Ok, inl, inr, ⊎_elim, length, refl, sym, ap, subst, arith}
use Rattle.std.specs.Prelude.{Err, IfErr, IfOk, IfSome, Result, String, bytes_eq, codes, string_bytes}
use Rattle.std.specs.Option.{option_and_then}
use Rattle.std.specs.declared.alloc.Global.{Global}
use Rattle.std.proofs.lemmas.Option.{option_and_then_some}
use Rattle.command_words.specs.Commands.{command_of}
use Rattle.command_words.specs.Items.{texts}
use Rattle.command_words.specs.declared.command.Command.{Command}
use Rattle.command_words.specs.declared.command.Command.TheVariants as command
use Rattle.command_words.specs.declared.command.Options.{Options}
use Rattle.command_words.proofs.CallerLemmas.{HasRanges, command_of-ranges}
use Rattle.file_lint.specs.ModelErrors.{LintsModel}
use Rattle.file_lint.specs.PolicyErrors.{LintsPolicy}
use Rattle.file_lint.specs.declared.finding.Finding.{Finding}
use Rattle.model_conf.specs.ModelText.{IsModel, ModelParts}
use Rattle.model_conf.specs.declared.fault.ModelFault.{ModelFault}
use Rattle.outside.specs.Files.{Files, Holds}
use Rattle.outside.specs.Faults.{Rose}
use Rattle.outside.proofs.CallerLemmas.{rose_later}
use Rattle.perm_base.specs.declared.shapes.Shapes.{Shapes}
use Rattle.policy_csv.specs.declared.fault.PolicyFault.{PolicyFault}
use Rattle.run_status.specs.Parts.{limit_of}
use Rattle.run_status.specs.Statuses.{status_of}
use Rattle.run_status.specs.declared.part.Part.TheVariants.{Model, Policy, Input, Report}
use Rattle.run_status.specs.declared.status.Status.{Status}
use Rattle.run_status.specs.declared.stop.Stop.{Stop}
use Rattle.run_status.specs.declared.stop.Stop.TheVariants.{NoModel, NoRelation, CannotRead, TooLong, NoMemory}
use Rattle.lint_run.specs.Ends.{LintStops}
use Rattle.lint_run.specs.Helps.{AreLinted, FetchStops, FilesStop, IsPolicyLinted, IsPolicyTold, PolicyFileStops, ShapesStop}
use Rattle.lint_run.specs.Lints.{FileIs, Lints, absent_in, is_to_lint, lint_asked, lint_of, lint_text, policy_end, shapes_with}
use Rattle.lint_run.specs.Lints.Lints.{both, model_alone}
use Rattle.lint_run.specs.declared.job.LintJob.{LintJob}
use Rattle.lint_run.specs.declared.run.Linted.{Linted}

-- a first word, or none
pub named_none : (words : List (String Global)) → length words ≡ 0 → false ≡ is_to_lint (texts words)
named_none [] none = refl
named_none (word ∷ words) none = absurd (omega (arith, none))

pub named_so : (words others : List (String Global)) (name : String Global) → words ≡ name ∷ others → bytes_eq (string_bytes name) (codes "lint") ≡ is_to_lint (texts words)
named_so words others name is = ap (λ (w : List (String Global)). is_to_lint (texts w)) (sym is)

-- what the words ask for, by the command that they are
pub no_lint_read : (words : List (List ℕ)) (command : Option Command) → command ≡ command_of words → command ≡ None → None ≡ lint_asked words
no_lint_read words command is none = ap (λ (o : Option Command). option_and_then lint_of o) (sym none ∙ is)

pub lint_read : (words : List (List ℕ)) (found : Option Command) (command : Command) (job : Option LintJob) → found ≡ command_of words → found ≡ Some command → job ≡ lint_of command → job ≡ lint_asked words
lint_read words found command job is some told = told ∙ ap (λ (o : Option Command). option_and_then lint_of o) (sym some ∙ is)

-- a limit is one to 250
abbrev LintHas : Option LintJob → Type 0
LintHas None = Unit {0}
LintHas (Some job) = (0 < job.options.limit) × (job.options.limit ≤ 250)

lint_has : (asked : Command) → HasRanges asked → LintHas (lint_of asked)
lint_has (command.Enforce files options json cache) has = tt
lint_has (command.Explain files options json most) has = tt
lint_has (command.Session files options json workers) has = tt
lint_has (command.Check files) has = tt
lint_has (command.Format files) has = tt
lint_has (command.Implicit files subject options) has = tt
lint_has (command.Report files options) has = tt
lint_has (command.Ship files options) has = tt
lint_has (command.Follow files options) has = tt
lint_has (command.Lint files options) has = has
lint_has (command.Demo count workers) has = tt

lint_limit : (words : List (List ℕ)) (job : LintJob) → lint_asked words ≡ Some job → LintHas (Some job)
lint_limit words job asked = option_and_then_some lint_of (command_of words) job asked (λ found told made. subst LintHas made (lint_has found (command_of-ranges words found told)))

pub lint_limits : (words : List (List ℕ)) (result : Option LintJob) → result ≡ lint_asked words → IfSome result (λ job. (0 < job.options.limit) × (job.options.limit ≤ 250))
lint_limits words None asked = tt
lint_limits words (Some job) asked = lint_limit words job (sym asked)

-- the model's file was not fetched
pub model_unfetched : (files : Option Files) (job : LintJob) (shelf : Type 0) (stop : Stop) → FetchStops files job.files.model Model shelf stop → FilesStop files job shelf stop
model_unfetched files job shelf (CannotRead Model) (same, lost) = lost
model_unfetched files job shelf (CannotRead Policy) (same, lost) = absurd cc
model_unfetched files job shelf (CannotRead Input) (same, lost) = absurd cc
model_unfetched files job shelf (CannotRead Report) (same, lost) = absurd cc
model_unfetched files job shelf (TooLong Model) (same, wide) = wide
model_unfetched files job shelf (TooLong Policy) (same, wide) = absurd cc
model_unfetched files job shelf (TooLong Input) (same, wide) = absurd cc
model_unfetched files job shelf (TooLong Report) (same, wide) = absurd cc
model_unfetched files job shelf NoMemory stops = tt
model_unfetched files job shelf _ stops = absurd stops

-- the options do not fit the model
pub options_unfit : (files : Option Files) (job : LintJob) (model : ModelParts) (shelf : Type 0) (stop : Stop) → ShapesStop job.options model stop → PolicyFileStops files job model shelf stop
options_unfit files job model shelf (NoRelation relation) stops = stops
options_unfit files job model shelf NoMemory stops = tt
options_unfit files job model shelf _ stops = absurd stops

-- the policy's file was not fetched
pub policy_unfetched : (files : Option Files) (job : LintJob) (model : ModelParts) (shelf : Type 0) (stop : Stop) → absent_in job.options model ≡ None
    → FetchStops files job.files.policy Policy shelf stop → PolicyFileStops files job model shelf stop
policy_unfetched files job model shelf (CannotRead Policy) fits (same, lost) = (fits, lost)
policy_unfetched files job model shelf (CannotRead Model) fits (same, lost) = absurd cc
policy_unfetched files job model shelf (CannotRead Input) fits (same, lost) = absurd cc
policy_unfetched files job model shelf (CannotRead Report) fits (same, lost) = absurd cc
policy_unfetched files job model shelf (TooLong Policy) fits (same, wide) = (fits, wide)
policy_unfetched files job model shelf (TooLong Model) fits (same, wide) = absurd cc
policy_unfetched files job model shelf (TooLong Input) fits (same, wide) = absurd cc
policy_unfetched files job model shelf (TooLong Report) fits (same, wide) = absurd cc
policy_unfetched files job model shelf NoMemory fits stops = tt
policy_unfetched files job model shelf _ fits stops = absurd stops

-- a file of which a model, or a fault, and these findings were told
pub model_told : (files : Option Files) (name bytes : List ℕ) (read : Result ModelParts ModelFault) (found : List Finding) (model : ModelParts) → Holds files name bytes → length bytes ≤ limit_of Model → LintsModel bytes read found → read ≡ Ok model
    → FileIs files name Model (λ bytes. LintsModel bytes (Ok model) found)
model_told files name bytes read found model holds within is same = (bytes, holds, within, subst (λ (r : Result ModelParts ModelFault). LintsModel bytes r found) same is)

pub fault_told : (files : Option Files) (name bytes : List ℕ) (read : Result ModelParts ModelFault) (found : List Finding) (first : ModelFault) → Holds files name bytes → length bytes ≤ limit_of Model → LintsModel bytes read found → read ≡ Err first
    → FileIs files name Model (λ bytes. LintsModel bytes (Err first) found)
fault_told files name bytes read found first holds within is same = (bytes, holds, within, subst (λ (r : Result ModelParts ModelFault). LintsModel bytes r found) same is)

pub policy_told : (files : Option Files) (job : LintJob) (model : ModelParts) (shapes : Shapes) (bytes : List ℕ) (first : Option PolicyFault) (found : List Finding) → Holds files job.files.policy bytes → length bytes ≤ limit_of Policy → absent_in job.options model ≡ None
    → shapes ≡ shapes_with job.options model → LintsPolicy model shapes bytes first found → IsPolicyLinted files job model first found
policy_told files job model shapes bytes first found holds within fits same is = record {
  fits = fits;
  finds = (bytes, holds, within, subst (λ (s : Shapes). LintsPolicy model s bytes first found) same is);
}

-- what both files come to, the policy's by a shelf that tells the same files at a later moment
pub linted_alone : (files : Option Files) (job : LintJob) (first : ModelFault) (found others : List Finding) (status : Status) → FileIs files job.files.model Model (λ bytes. LintsModel bytes (Err first) found) → others ≡ [] → status ≡ status_of (NoModel first)
    → Lints files job (lint_text job found others) status
linted_alone files job first found others status is none ends = model_alone first found is (ap (lint_text job found) none) ends

pub linted_both : (files mid : Option Files) (job : LintJob) (model : ModelParts) (first : Option PolicyFault) (found others : List Finding) (status : Status) → mid ≡ files → FileIs files job.files.model Model (λ bytes. LintsModel bytes (Ok model) found)
    → IsPolicyLinted mid job model first others → status ≡ policy_end first → Lints files job (lint_text job found others) status
linted_both files mid job model first found others status same is linted ends =
    let later = subst (λ (f : Option Files). IsPolicyLinted f job model first others) same linted in
    both model first found others is later.fits later.finds refl ends

-- the same of what is kept of both, and of the model alone
pub both_linted : (files mid : Option Files) (job : LintJob) (model : ModelParts) (found : List Finding) (result : Result Linted Stop) → mid ≡ files → FileIs files job.files.model Model (λ bytes. LintsModel bytes (Ok model) found)
    → IfOk result (λ linted. linted.model.items ≡ found) → IfOk result (IsPolicyTold mid job model) → IfOk result (AreLinted files job)
both_linted files mid job model found (Err stop) same is kept told = tt
both_linted files mid job model found (Ok linted) same is kept (first, finds, ends) =
    subst (λ (l : List Finding). Lints files job (lint_text job l linted.policy.items) linted.status) (sym kept) (linted_both files mid job model first found linted.policy.items linted.status same is finds ends)

pub alone_linted : (files : Option Files) (job : LintJob) (first : ModelFault) (found : List Finding) (linted : Linted) → FileIs files job.files.model Model (λ bytes. LintsModel bytes (Err first) found) → linted.model.items ≡ found → linted.policy.items ≡ []
    → linted.status ≡ status_of (NoModel first) → AreLinted files job linted
alone_linted files job first found linted is kept none ends =
    subst (λ (l : List Finding). Lints files job (lint_text job l linted.policy.items) linted.status) (sym kept) (linted_alone files job first found linted.policy.items linted.status is none ends)

-- a file that holds the findings of a model holds the model
pub model_held : (files : Option Files) (name : List ℕ) (model : ModelParts) (found : List Finding) → FileIs files name Model (λ bytes. LintsModel bytes (Ok model) found) → FileIs files name Model (λ bytes. IsModel bytes model)
model_held files name model found (bytes, holds, within, is) = (bytes, holds, within, is.0)

-- behind the model, by a shelf that tells the same files at a later moment
pub policy_unlinted : (files mid : Option Files) (job : LintJob) (model : ModelParts) (before faults now : ℕ) (stop : Stop) → mid ≡ files → before ≤ faults → FileIs files job.files.model Model (λ bytes. IsModel bytes model)
    → PolicyFileStops mid job model (Rose faults now) stop → FilesStop files job (Rose before now) stop
policy_unlinted files mid job model before faults now stop same earlier is stops = by stop (subst (λ (f : Option Files). PolicyFileStops f job model (Rose faults now) stop) same stops)
  where
    by : (stop : Stop) → PolicyFileStops files job model (Rose faults now) stop → FilesStop files job (Rose before now) stop
    by (NoRelation relation) stops = (model, is, stops)
    by (CannotRead Policy) stops = (model, is, (stops.0, ⊎_elim inl (λ rose. inr (rose_later before faults now earlier rose)) stops.1))
    by (CannotRead _) stops = absurd stops
    by (TooLong Policy) stops = (model, is, stops)
    by (TooLong _) stops = absurd stops
    by NoMemory stops = tt
    by _ stops = absurd stops

pub both_unlinted : (files mid : Option Files) (job : LintJob) (model : ModelParts) (before faults now : ℕ) (result : Result Linted Stop) → mid ≡ files → before ≤ faults → FileIs files job.files.model Model (λ bytes. IsModel bytes model)
    → IfErr result (PolicyFileStops mid job model (Rose faults now)) → IfErr result (FilesStop files job (Rose before now))
both_unlinted files mid job model before faults now (Err stop) same earlier is stops = policy_unlinted files mid job model before faults now stop same earlier is stops
both_unlinted files mid job model before faults now (Ok linted) same earlier is stops = tt

-- files that were not linted end a lint
pub files_end : (words : List (List ℕ)) (files : Option Files) (job : LintJob) (shelf out : Type 0) (before now : Option (List ℕ)) (stop : Stop) → lint_asked words ≡ Some job → now ≡ before → FilesStop files job shelf stop
    → LintStops words files shelf out before now stop
files_end words files job shelf out before now (CannotRead Model) asked same stops = ((job, asked, stops), same)
files_end words files job shelf out before now (CannotRead Policy) asked same (model, is, (fits, lost)) = ((job, asked, ((model, is, fits), lost)), same)
files_end words files job shelf out before now (CannotRead _) asked same stops = absurd stops
files_end words files job shelf out before now (TooLong Model) asked same stops = ((job, asked, stops), same)
files_end words files job shelf out before now (TooLong Policy) asked same (model, is, (fits, wide)) = ((job, asked, ((model, is, fits), wide)), same)
files_end words files job shelf out before now (TooLong _) asked same stops = absurd stops
files_end words files job shelf out before now (NoRelation relation) asked same (model, is, absent) = ((job, asked, (model, is, absent)), same)
files_end words files job shelf out before now NoMemory asked same stops = same
files_end words files job shelf out before now _ asked same stops = absurd stops
