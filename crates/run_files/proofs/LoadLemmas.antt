-- Why files were not loaded, from why their parts were not.
use Rattle.std.proofs.Common.{◌≡◌, ℕ, ◌≤◌, Bool, true, false, List, [], ◌∷◌, inl, inr, ⊎_elim, subst}
use Rattle.std.specs.Prelude.{Option}
use Rattle.command_words.specs.FileNames.{FileNames}
use Rattle.command_words.specs.declared.command.Options.{Options}
use Rattle.model_conf.specs.ModelText.{ModelParts}
use Rattle.outside.proofs.CallerLemmas.{adds_then, rose_later}
use Rattle.outside.specs.Faults.{Rose}
use Rattle.outside.specs.Files.{Files}
use Rattle.outside.specs.Log.{Adds, call}
use Rattle.outside.specs.declared.fetch_log.FetchCall.{FetchCall}
use Rattle.perm_base.specs.declared.shapes.Shapes.{Shapes}
use Rattle.policy_csv.specs.Policy.{IsPolicy}
use Rattle.policy_table.specs.Tables as table
use Rattle.run_status.specs.declared.part.Part.TheVariants.{Model, Policy}
use Rattle.run_status.specs.declared.stop.Stop.{Stop}
use Rattle.run_status.specs.declared.stop.Stop.TheVariants.{NoModel, NoRelation, NoPolicy, CannotRead, TooLong, NoMemory}
use Rattle.run_files.specs.Files.{FileIs, ModelSuits, ModelIs, shapes_with}
use Rattle.run_files.specs.Helps.ReadStops.{ModelStops, PolicyStops, ShapesStop}
use Rattle.run_files.specs.Loads.{LoadStops, both_fetches}

pub model_load : (files : Option Files) (names : FileNames) (options : Option Options) (told : List FetchCall → Type 0) (rose : Type 0) (stop : Stop) → ModelStops files names.model (λ failed. told (call names.model failed ∷ [])) rose stop → LoadStops files names options told rose stop
model_load files names options told rose (CannotRead Model) stops = stops
model_load files names options told rose (TooLong Model) stops = stops
model_load files names options told rose (NoModel fault) stops = stops
model_load files names options told rose NoMemory stops = inl stops
model_load files names options told rose _ stops = absurd stops

pub shapes_load : (files : Option Files) (names : FileNames) (options : Option Options) (model : ModelParts) (told : List FetchCall → Type 0) (rose : Type 0) (stop : Stop) → ModelIs files names model → told (call names.model false ∷ []) → ShapesStop options model stop → LoadStops files names options told rose stop
shapes_load files names options model told rose (NoRelation relation) is so stops = (model, is, (stops, so))
shapes_load files names options model told rose NoMemory is so stops = inl so
shapes_load files names options model told rose _ is so stops = absurd stops

-- the shelf told of this fetch, which failed or did not
abbrev tells : (calls now : Option (List FetchCall)) → List ℕ → Bool → Type 0
tells calls now name failed = Adds calls now (call name failed ∷ [])

-- both files were fetched
pub both_told : (calls calls_mid calls_now : Option (List FetchCall)) (names : FileNames) (failed : Bool) → Adds calls calls_mid (call names.model false ∷ []) → Adds calls_mid calls_now (call names.policy failed ∷ []) → Adds calls calls_now (both_fetches names failed)
both_told calls calls_mid calls_now names failed first next = adds_then calls calls_mid calls_now (call names.model false ∷ []) (call names.policy failed ∷ []) first next

-- by a shelf that tells the same files, at a later moment
pub policy_load : (files mid : Option Files) (names : FileNames) (options : Option Options) (model : ModelParts) (shapes : Shapes) (calls calls_mid calls_now : Option (List FetchCall)) (before faults now : ℕ) (stop : Stop) → mid ≡ files → shapes ≡ shapes_with options model
    → Adds calls calls_mid (call names.model false ∷ []) → before ≤ faults → ModelSuits files names options model
    → PolicyStops mid names.policy shapes (λ failed. Adds calls_mid calls_now (call names.policy failed ∷ [])) (Rose faults now) stop → LoadStops files names options (Adds calls calls_now) (Rose before now) stop
policy_load files mid names options model shapes calls calls_mid calls_now before faults now stop same is first earlier fits stops =
    later stop (subst (λ (f : Option Files). PolicyStops f names.policy (shapes_with options model) (tells calls_mid calls_now names.policy) (Rose faults now) stop) same (subst (λ (s : Shapes). PolicyStops mid names.policy s (tells calls_mid calls_now names.policy) (Rose faults now) stop) is stops))
  where
    both : (failed : Bool) → Adds calls_mid calls_now (call names.policy failed ∷ []) → Adds calls calls_now (both_fetches names failed)
    both failed next = both_told calls calls_mid calls_now names failed first next

    later : (stop : Stop) → PolicyStops files names.policy (shapes_with options model) (tells calls_mid calls_now names.policy) (Rose faults now) stop → LoadStops files names options (Adds calls calls_now) (Rose before now) stop
    later (CannotRead Policy) stops = (model, fits, ⊎_elim (λ lacks. inl (lacks.0, both false lacks.1)) (λ rose. inr (rose_later before faults now earlier rose.0, both true rose.1)) stops)
    later (TooLong Policy) stops = (model, fits, (stops.0, both false stops.1))
    later (NoPolicy fault) stops = (model, fits, (stops.0, both false stops.1))
    later NoMemory stops = inr (model, fits, both false stops)
    later _ stops = absurd stops

-- the policy's file, from an earlier moment
pub policy_since : (files mid : Option Files) (names : FileNames) (options : Option Options) (model : ModelParts) (shapes : Shapes) (policy : table.Policy) → mid ≡ files → shapes ≡ shapes_with options model → FileIs mid names.policy Policy (λ bytes. IsPolicy shapes bytes policy)
    → FileIs files names.policy Policy (λ bytes. IsPolicy (shapes_with options model) bytes policy)
policy_since files mid names options model shapes policy same is read =
    subst (λ (f : Option Files). FileIs f names.policy Policy (λ bytes. IsPolicy (shapes_with options model) bytes policy)) same
    (subst (λ (s : Shapes). FileIs mid names.policy Policy (λ bytes. IsPolicy s bytes policy)) is read)
