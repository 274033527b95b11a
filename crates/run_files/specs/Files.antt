-- The files of a run: a model, and a policy of its shapes. Where files are not told, some bytes stand for what was read.
use Rattle.std.specs.Prelude.{◌≡◌, ℕ, ◌≤◌, List, [], Option, Some, None, length}
use Rattle.command_words.specs.FileNames.{FileNames}
use Rattle.command_words.specs.declared.command.Options.{Options}
use Rattle.model_conf.specs.ModelText.{IsModel, ModelParts}
use Rattle.model_conf.specs.Shapes.{first_absent, shapes_of}
use Rattle.outside.specs.Files.{Files, Holds}
use Rattle.perm_base.specs.declared.shapes.Fit.{Fit}
use Rattle.perm_base.specs.declared.shapes.Shapes.{Shapes}
use Rattle.policy_csv.specs.Policy.{IsPolicy}
use Rattle.policy_table.specs.Tables as table
use Rattle.run_status.specs.Parts.{limit_of}
use Rattle.run_status.specs.declared.part.Part.{Part}
use Rattle.run_status.specs.declared.part.Part.TheVariants.{Model, Policy}

-- the file of that name has at most as many bytes as the part may have, and the fact holds of them
abbrev pub FileIs : Option Files → List ℕ → Part → (List ℕ → Type 0) → Type 0
FileIs files name part fact = (bytes : List ℕ) × Holds files name bytes × (length bytes ≤ limit_of part) × fact bytes

-- the relations whose names are compared by a function, those whose domains are, and the limit of links, which is 10 unless it is told
abbrev pub names_in : Option Options → List (ℕ × Fit)
names_in None = []
names_in (Some options) = options.names

abbrev pub domains_in : Option Options → List (ℕ × Fit)
domains_in None = []
domains_in (Some options) = options.domains

abbrev pub limit_in : Option Options → ℕ
limit_in None = 10
limit_in (Some options) = options.limit

-- the shapes of the model's policies with these options
abbrev pub shapes_with : Option Options → ModelParts → Shapes
shapes_with options model = shapes_of model (names_in options) (domains_in options) (limit_in options)

-- the first relation or domain column that options name and the model lacks
abbrev pub absent_in : Option Options → ModelParts → Option ℕ
absent_in options model = first_absent model.relations (names_in options) (domains_in options)

-- the model's file is this model
abbrev pub ModelIs : Option Files → FileNames → ModelParts → Type 0
ModelIs files names model = FileIs files names.model Model (λ bytes. IsModel bytes model)

-- besides, it has all that the options name
pub record ModelSuits (files : Option Files) (names : FileNames) (options : Option Options) (model : ModelParts) : Type 0 where
  pub is_model : ModelIs files names model
  pub none_absent : absent_in options model ≡ None

-- besides, the policy's file is this policy
pub record AreFiles (files : Option Files) (names : FileNames) (options : Option Options) (model : ModelParts) (policy : table.Policy) : Type 0 where
  pub suits : ModelSuits files names options model
  pub is_policy : FileIs files names.policy Policy (λ bytes. IsPolicy (shapes_with options model) bytes policy)
