-- Why a part of a run was not read, by cases on the stop.
use Rattle.std.specs.Prelude.{◌≡◌, ℕ, ◌<◌, Bool, false, List, Option, Some, length, ⊤}
use Rattle.command_words.specs.declared.command.Options.{Options}
use Rattle.model_conf.specs.Faults.{IsModelFault}
use Rattle.model_conf.specs.ModelText.{ModelParts}
use Rattle.outside.specs.Files.{Files, OfFile}
use Rattle.outside.specs.declared.shelf.Fetch.{Fetch}
use Rattle.outside.specs.declared.shelf.Fetch.TheVariants as fetch
use Rattle.perm_base.specs.declared.shapes.Shapes.{Shapes}
use Rattle.policy_csv.specs.Faults.{IsPolicyFault}
use Rattle.run_status.specs.Parts.{limit_of}
use Rattle.run_status.specs.declared.part.Part.{Part}
use Rattle.run_status.specs.declared.part.Part.TheVariants.{Model, Policy}
use Rattle.run_status.specs.declared.stop.Stop.{Stop}
use Rattle.run_status.specs.declared.stop.Stop.TheVariants.{NoModel, NoRelation, NoPolicy, CannotRead, TooLong, NoMemory}
use Rattle.run_files.specs.Files.{FileIs, absent_in}
use Rattle.run_files.specs.Loads.{Lost}

-- the stop that comes of a file that was not fetched
abbrev pub fetch_stop : Part → Fetch → Stop
fetch_stop part fetch.Absent = CannotRead part
fetch_stop part fetch.Failed = CannotRead part
fetch_stop part fetch.TooLong = TooLong part
fetch_stop part fetch.NoMemory = NoMemory

-- the file of a part was not fetched; `told` holds of whether the shelf told of a fetch that failed
abbrev pub FetchStops : Option Files → List ℕ → Part → (told : Bool → Type 0) → (rose : Type 0) → Stop → Type 0
FetchStops files name part told rose (CannotRead p) = (p ≡ part) × Lost files name told rose
FetchStops files name part told rose (TooLong p) = (p ≡ part) × OfFile files name (λ bytes. limit_of part < length bytes) × told false
FetchStops files name part told rose NoMemory = told false
FetchStops files name part told rose _ = ⊥

-- the model was not read
abbrev pub ModelStops : Option Files → List ℕ → (told : Bool → Type 0) → (rose : Type 0) → Stop → Type 0
ModelStops files name told rose (CannotRead Model) = Lost files name told rose
ModelStops files name told rose (TooLong Model) = OfFile files name (λ bytes. limit_of Model < length bytes) × told false
ModelStops files name told rose (NoModel fault) = FileIs files name Model (λ bytes. IsModelFault bytes fault) × told false
ModelStops files name told rose NoMemory = told false
ModelStops files name told rose _ = ⊥

-- the options do not fit the model
abbrev pub ShapesStop : Option Options → ModelParts → Stop → Type 0
ShapesStop options model (NoRelation relation) = absent_in options model ≡ Some relation
ShapesStop options model NoMemory = ⊤
ShapesStop options model _ = ⊥

-- the policy was not read
abbrev pub PolicyStops : Option Files → List ℕ → Shapes → (told : Bool → Type 0) → (rose : Type 0) → Stop → Type 0
PolicyStops files name shapes told rose (CannotRead Policy) = Lost files name told rose
PolicyStops files name shapes told rose (TooLong Policy) = OfFile files name (λ bytes. limit_of Policy < length bytes) × told false
PolicyStops files name shapes told rose (NoPolicy fault) = FileIs files name Policy (λ bytes. IsPolicyFault shapes bytes fault) × told false
PolicyStops files name shapes told rose NoMemory = told false
PolicyStops files name shapes told rose _ = ⊥
