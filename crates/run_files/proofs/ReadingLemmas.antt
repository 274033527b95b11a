-- Why a part is not read, from the fetch of its file or the fault of its reader.
use Rattle.std.proofs.Common.{◌≡◌, ◌≢◌, ℕ, ◌<◌, ◌≤◌, Bool, false, List, [], ◌∷◌, length, inl, inr, refl}
use Rattle.std.specs.Prelude.{◌↔◌, Option, Some, None, Result, Ok, Err, IfErr, OnOk, IsErrOf}
use Rattle.command_words.specs.declared.command.Options.{Options}
use Rattle.decision.specs.Programs.{Suits}
use Rattle.model_conf.specs.Faults.{IsModelFault}
use Rattle.model_conf.specs.ModelText.{ModelParts}
use Rattle.model_conf.specs.Shapes.{AreNamedOnce}
use Rattle.model_conf.specs.declared.fault.ModelFault.{ModelFault}
use Rattle.model_conf.specs.declared.fault.ModelFault.TheVariants as model
use Rattle.model_conf.specs.declared.shapes.ShapeFault.{ShapeFault}
use Rattle.model_conf.specs.declared.shapes.ShapeFault.TheVariants as shape
use Rattle.outside.specs.Faults.{Rose}
use Rattle.outside.specs.Fetches.{Fetches}
use Rattle.outside.specs.Files.{Files, Holds}
use Rattle.outside.specs.Log.{Adds, call}
use Rattle.outside.specs.declared.fetch_log.FetchCall.{FetchCall}
use Rattle.outside.specs.declared.shelf.Fetch.{Fetch}
use Rattle.outside.specs.declared.shelf.Fetch.TheVariants as fetch
use Rattle.perm_base.specs.declared.shapes.Shapes.{Shapes}
use Rattle.policy_csv.specs.Faults.{IsPolicyFault}
use Rattle.policy_csv.specs.declared.fault.PolicyFault.{PolicyFault}
use Rattle.policy_csv.specs.declared.fault.PolicyFault.TheVariants as policy
use Rattle.run_status.specs.Parts.{limit_of}
use Rattle.run_status.specs.Stops.{model_stop_of, policy_stop_of, shape_stop_of}
use Rattle.run_status.specs.declared.part.Part.{Part}
use Rattle.run_status.specs.declared.part.Part.TheVariants.{Model, Policy, Input, Report}
use Rattle.run_status.specs.declared.stop.Stop.{Stop}
use Rattle.run_status.specs.declared.stop.Stop.TheVariants.{CannotRead, TooLong, NoMemory}
use Rattle.run_files.specs.Files.{absent_in, domains_in, limit_in, names_in, shapes_with}
use Rattle.run_files.specs.Helps.ReadStops.{FetchStops, ModelStops, PolicyStops, ShapesStop, fetch_stop}

-- a fetch that ended so, from the shelf's own clause
pub fetch_stops : (files files_now : Option Files) (calls calls_now : Option (List FetchCall)) (faults faults_now : ℕ) (name : List ℕ) (part : Part) (reason : Fetch)
    → Fetches files files_now calls calls_now faults faults_now name (limit_of part) (Err reason) → FetchStops files name part (λ failed. Adds calls calls_now (call name failed ∷ [])) (Rose faults faults_now) (fetch_stop part reason)
fetch_stops files files_now calls calls_now faults faults_now name part fetch.Absent is = (refl, inl (is.absent.0 refl, is.told))
fetch_stops files files_now calls calls_now faults faults_now name part fetch.Failed is = (refl, inr (is.failed refl, is.told))
fetch_stops files files_now calls calls_now faults faults_now name part fetch.TooLong is = (refl, is.too_long refl, is.told)
fetch_stops files files_now calls calls_now faults faults_now name part fetch.NoMemory is = is.told

pub model_fetch : (files : Option Files) (name : List ℕ) (told : Bool → Type 0) (rose : Type 0) (stop : Stop) → FetchStops files name Model told rose stop → ModelStops files name told rose stop
model_fetch files name told rose (CannotRead Model) (same, lost) = lost
model_fetch files name told rose (CannotRead Policy) (same, lost) = absurd cc
model_fetch files name told rose (CannotRead Input) (same, lost) = absurd cc
model_fetch files name told rose (CannotRead Report) (same, lost) = absurd cc
model_fetch files name told rose (TooLong Model) (same, wide, is) = (wide, is)
model_fetch files name told rose (TooLong Policy) (same, wide, is) = absurd cc
model_fetch files name told rose (TooLong Input) (same, wide, is) = absurd cc
model_fetch files name told rose (TooLong Report) (same, wide, is) = absurd cc
model_fetch files name told rose NoMemory stops = stops
model_fetch files name told rose _ stops = absurd stops

pub policy_fetch : (files : Option Files) (name : List ℕ) (shapes : Shapes) (told : Bool → Type 0) (rose : Type 0) (stop : Stop) → FetchStops files name Policy told rose stop → PolicyStops files name shapes told rose stop
policy_fetch files name shapes told rose (CannotRead Policy) (same, lost) = lost
policy_fetch files name shapes told rose (CannotRead Model) (same, lost) = absurd cc
policy_fetch files name shapes told rose (CannotRead Input) (same, lost) = absurd cc
policy_fetch files name shapes told rose (CannotRead Report) (same, lost) = absurd cc
policy_fetch files name shapes told rose (TooLong Policy) (same, wide, is) = (wide, is)
policy_fetch files name shapes told rose (TooLong Model) (same, wide, is) = absurd cc
policy_fetch files name shapes told rose (TooLong Input) (same, wide, is) = absurd cc
policy_fetch files name shapes told rose (TooLong Report) (same, wide, is) = absurd cc
policy_fetch files name shapes told rose NoMemory stops = stops
policy_fetch files name shapes told rose _ stops = absurd stops

-- ---- the readers

pub model_stops : (files : Option Files) (name : List ℕ) (told : Bool → Type 0) (rose : Type 0) (bytes : List ℕ) (e : ModelFault) → Holds files name bytes → length bytes ≤ limit_of Model → told false → (e ≢ model.NoMemory → IsModelFault bytes e) → ModelStops files name told rose (model_stop_of e)
model_stops files name told rose bytes model.NoMemory holds within so fault = so
model_stops files name told rose bytes e holds within so fault = ((bytes, holds, within, fault (λ is. absurd cc)), so)

pub policy_stops : (files : Option Files) (name : List ℕ) (shapes : Shapes) (told : Bool → Type 0) (rose : Type 0) (bytes : List ℕ) (e : PolicyFault) → Holds files name bytes → length bytes ≤ limit_of Policy → told false → (e ≢ policy.NoMemory → IsPolicyFault shapes bytes e) → PolicyStops files name shapes told rose (policy_stop_of e)
policy_stops files name shapes told rose bytes policy.NoMemory holds within so fault = so
policy_stops files name shapes told rose bytes e holds within so fault = ((bytes, holds, within, fault (λ is. absurd cc)), so)

-- what making shapes comes to, from its clause
abbrev pub TellsMissing : Option Options → ModelParts → Result Shapes ShapeFault → Type 0
TellsMissing options parts result = (relation : ℕ) → IsErrOf result (shape.NoRelation relation) ↔ (absent_in options parts ≡ Some relation)

pub shapes_stop : (options : Option Options) (parts : ModelParts) (result : Result Shapes ShapeFault) → TellsMissing options parts result → IfErr result (λ e. ShapesStop options parts (shape_stop_of e))
shapes_stop options parts (Ok shapes) missing = tt
shapes_stop options parts (Err (shape.NoRelation relation)) missing = (missing relation).0 refl
shapes_stop options parts (Err shape.NoMemory) missing = tt

-- shapes that were made name nothing that is absent
pub none_absent : (options : Option Options) (parts : ModelParts) (result : Result Shapes ShapeFault) → TellsMissing options parts result → OnOk result (absent_in options parts ≡ None)
none_absent options parts (Err e) missing = tt
none_absent options parts (Ok shapes) missing = by (absent_in options parts) refl
  where
    by : (absent : Option ℕ) → absent_in options parts ≡ absent → absent ≡ None
    by None e = refl
    by (Some relation) e = let wrong : IsErrOf (Ok shapes) (shape.NoRelation relation) = (missing relation).1 e in absurd cc

-- shapes with these lists suit the model
pub suits_with : (parts : ModelParts) (options : Option Options) (shapes : Shapes) → AreNamedOnce (names_in options) → AreNamedOnce (domains_in options) → absent_in options parts ≡ None → 0 < limit_in options → limit_in options ≤ 250 → shapes ≡ shapes_with options parts → Suits parts shapes
suits_with parts options shapes names domains none some most is = record {
  names = names_in options;
  domains = domains_in options;
  limit = limit_in options;
  names_once = names;
  domains_once = domains;
  present = none;
  some = some;
  most = most;
  shapes_are = is;
}
