-- Why a part is not read, from what its reader says.
use Rattle.std.proofs.Common.{◌≡◌, ℕ, List, inl, inr, refl}
use Rattle.std.specs.Prelude.{◌↔◌, Option, Some, None, Result, Ok, Err, IfErr, OnOk, IsErrOf}
use Rattle.command_words.specs.declared.command.Options.{Options}
use Rattle.model_conf.specs.ModelText.{ModelParts}
use Rattle.model_conf.specs.declared.shapes.ShapeFault.{ShapeFault}
use Rattle.model_conf.specs.declared.shapes.ShapeFault.TheVariants as shape
use Rattle.outside.specs.Faults.{Rose}
use Rattle.outside.specs.Fetches.{Fetches}
use Rattle.outside.specs.Files.{Files}
use Rattle.outside.specs.declared.fetch_log.FetchCall.{FetchCall}
use Rattle.outside.specs.declared.shelf.Fetch.{Fetch}
use Rattle.outside.specs.declared.shelf.Fetch.TheVariants as fetch
use Rattle.perm_base.specs.declared.shapes.Shapes.{Shapes}
use Rattle.run_status.specs.Parts.{limit_of}
use Rattle.run_status.specs.Stops.{shape_stop_of}
use Rattle.run_status.specs.declared.part.Part.{Part}
use Rattle.lint_run.specs.Helps.{FetchStops, ShapesStop, fetch_stop}
use Rattle.lint_run.specs.Lints.{absent_in}

-- a fetch that ended so, from the shelf's own clause
pub fetch_stops : (files files_now : Option Files) (calls calls_now : Option (List FetchCall)) (faults faults_now : ℕ) (name : List ℕ) (part : Part) (reason : Fetch)
    → Fetches files files_now calls calls_now faults faults_now name (limit_of part) (Err reason) → FetchStops files name part (Rose faults faults_now) (fetch_stop part reason)
fetch_stops files files_now calls calls_now faults faults_now name part fetch.Absent is = (refl, inl (is.absent.0 refl))
fetch_stops files files_now calls calls_now faults faults_now name part fetch.Failed is = (refl, inr (is.failed refl))
fetch_stops files files_now calls calls_now faults faults_now name part fetch.TooLong is = (refl, is.too_long refl)
fetch_stops files files_now calls calls_now faults faults_now name part fetch.NoMemory is = tt

-- what making shapes comes to, from its clause
abbrev pub TellsMissing : Options → ModelParts → Result Shapes ShapeFault → Type 0
TellsMissing options parts result = (relation : ℕ) → IsErrOf result (shape.NoRelation relation) ↔ (absent_in options parts ≡ Some relation)

pub shapes_stop : (options : Options) (parts : ModelParts) (result : Result Shapes ShapeFault) → TellsMissing options parts result → IfErr result (λ e. ShapesStop options parts (shape_stop_of e))
shapes_stop options parts (Ok shapes) missing = tt
shapes_stop options parts (Err (shape.NoRelation relation)) missing = (missing relation).0 refl
shapes_stop options parts (Err shape.NoMemory) missing = tt

-- shapes that were made name nothing that is absent
pub none_absent : (options : Options) (parts : ModelParts) (result : Result Shapes ShapeFault) → TellsMissing options parts result → OnOk result (absent_in options parts ≡ None)
none_absent options parts (Err e) missing = tt
none_absent options parts (Ok shapes) missing = by (absent_in options parts) refl
  where
    by : (absent : Option ℕ) → absent_in options parts ≡ absent → absent ≡ None
    by None e = refl
    by (Some relation) e = let wrong : IsErrOf (Ok shapes) (shape.NoRelation relation) = (missing relation).1 e in absurd cc
