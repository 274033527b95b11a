-- What the files of a run are, where they are loaded; and why they were not, by cases on the stop, and what was asked of the shelf on the way: the model's file, and where
-- it was read and fits, the policy's file, each once.
use Rattle.std.specs.Prelude.{◌≡◌, ◌⊎◌, ℕ, ◌<◌, Bool, true, false, List, [], ◌∷◌, Option, Some, length}
use Rattle.command_words.specs.FileNames.{FileNames}
use Rattle.command_words.specs.declared.command.Options.{Options}
use Rattle.model_conf.specs.Faults.{IsModelFault}
use Rattle.model_conf.specs.ModelText.{ModelParts}
use Rattle.outside.specs.Files.{Files, Lacks, OfFile}
use Rattle.outside.specs.Log.{call}
use Rattle.outside.specs.declared.fetch_log.FetchCall.{FetchCall}
use Rattle.policy_csv.specs.Faults.{IsPolicyFault}
use Rattle.run_status.specs.Parts.{limit_of}
use Rattle.run_status.specs.declared.part.Part.TheVariants.{Model, Policy}
use Rattle.run_status.specs.declared.stop.Stop.{Stop}
use Rattle.run_status.specs.declared.stop.Stop.TheVariants.{NoModel, NoRelation, NoPolicy, CannotRead, TooLong, NoMemory}
use Rattle.loaded_work.specs.declared.loaded.Loaded.{Loaded}
use Rattle.run_files.specs.Files.{AreFiles, FileIs, ModelSuits, ModelIs, absent_in, shapes_with}

-- the files are this model and this policy, and these are the shapes
pub record IsLoaded (files : Option Files) (names : FileNames) (options : Option Options) (loaded : Loaded) : Type 0 where
  pub are_files : AreFiles files names options loaded.model loaded.tables.policy
  pub shapes_are : loaded.shapes ≡ shapes_with options loaded.model

-- the fetches of the model's file, and of both; `failed` says whether the last of them failed
abbrev pub first_fetch : FileNames → Bool → List FetchCall
first_fetch names failed = call names.model failed ∷ []

abbrev pub both_fetches : FileNames → Bool → List FetchCall
both_fetches names failed = call names.model false ∷ call names.policy failed ∷ []

-- the file is not there, or the shelf failed, and told so
abbrev pub Lost : Option Files → List ℕ → (told : Bool → Type 0) → (rose : Type 0) → Type 0
Lost files name told rose = (Lacks files name × told false) ⊎ (rose × told true)

-- the model was read, and the fact holds of it
abbrev pub BehindModel : Option Files → FileNames → (ModelParts → Type 0) → Type 0
BehindModel files names fact = (model : ModelParts) × ModelIs files names model × fact model

-- besides, the options fit it
abbrev pub BehindOptions : Option Files → FileNames → Option Options → (ModelParts → Type 0) → Type 0
BehindOptions files names options fact = (model : ModelParts) × ModelSuits files names options model × fact model

-- `told` holds of the fetches that the shelf told, and `rose` says that it failed
abbrev pub LoadStops : Option Files → FileNames → Option Options → (told : List FetchCall → Type 0) → (rose : Type 0) → Stop → Type 0
LoadStops files names options told rose (CannotRead Model) = Lost files names.model (λ failed. told (first_fetch names failed)) rose
LoadStops files names options told rose (TooLong Model) = OfFile files names.model (λ bytes. limit_of Model < length bytes) × told (first_fetch names false)
LoadStops files names options told rose (NoModel fault) = FileIs files names.model Model (λ bytes. IsModelFault bytes fault) × told (first_fetch names false)
LoadStops files names options told rose (NoRelation relation) = BehindModel files names (λ model. (absent_in options model ≡ Some relation) × told (first_fetch names false))
LoadStops files names options told rose (CannotRead Policy) = BehindOptions files names options (λ model. Lost files names.policy (λ failed. told (both_fetches names failed)) rose)
LoadStops files names options told rose (TooLong Policy) = BehindOptions files names options (λ model. OfFile files names.policy (λ bytes. limit_of Policy < length bytes) × told (both_fetches names false))
LoadStops files names options told rose (NoPolicy fault) = BehindOptions files names options (λ model. FileIs files names.policy Policy (λ bytes. IsPolicyFault (shapes_with options model) bytes fault) × told (both_fetches names false))
LoadStops files names options told rose NoMemory = told (first_fetch names false) ⊎ BehindOptions files names options (λ model. told (both_fetches names false))
LoadStops files names options told rose _ = ⊥
