-- What an enforcer is opened from, and why it is not.
use Rattle.std.specs.Prelude.{◌≡◌, ℕ, ◌<◌, ⊤, ◌++◌, List, [], ◌∷◌, IsUtf8, Option, None, Some, codes, length}
use Rattle.std.specs.Option.{option_and_then}
use Rattle.command_words.specs.Commands.{command_of}
use Rattle.command_words.specs.declared.command.Command.{Command}
use Rattle.command_words.specs.declared.command.Command.TheVariants as command
use Rattle.command_words.specs.declared.command.Options.{Options}
use Rattle.desk_session.specs.Desks.{StandsBehind}
use Rattle.model_conf.specs.Faults.{IsModelFault}
use Rattle.model_conf.specs.ModelText.{IsModel, ModelParts}
use Rattle.policy_csv.specs.Faults.{IsPolicyFault}
use Rattle.policy_csv.specs.Policy.{IsPolicy}
use Rattle.policy_desk.specs.Desks.{Work}
use Rattle.policy_state.specs.States.{tables}
use Rattle.run_files.specs.Files.{absent_in, shapes_with}
use Rattle.run_status.specs.Parts.{limit_of}
use Rattle.run_status.specs.declared.part.Part.TheVariants as part
use Rattle.run_status.specs.declared.stop.Stop.{Stop}
use Rattle.run_status.specs.declared.stop.Stop.TheVariants.{Words, NoModel, NoRelation, NoPolicy, TooLong, NoMemory}
use Rattle.text_parts.specs.Numbered.{text_lines}
use Rattle.version_log.specs.Log.{versions}
use Rattle.enforce_core.specs.Places.{at_desk}
use Rattle.enforce_core.specs.Seen.{Enforcing, none_refused}

-- the texts of the model, of the policy and of the options
pub record Given : Type 0 where
  pub model : List ℕ
  pub policy : List ℕ
  pub options : List ℕ

-- ---- options

-- a command of the program that takes the options of roles, with its files
abbrev pub words_before : List (List ℕ)
words_before = codes "report" ∷ codes "model" ∷ codes "policy" ∷ []

-- the words of the program that say the options: each line is a word
abbrev pub option_words : List ℕ → List (List ℕ)
option_words text = words_before ++ text_lines text

-- what a command says of roles, where it is a report
abbrev pub report_options : Command → Option Options
report_options (command.Report files options) = Some options
report_options _ = None

-- what words say of roles, where they ask for a report
abbrev pub options_asked : List (List ℕ) → Option Options
options_asked words = option_and_then report_options (command_of words)

-- the text is UTF-8, and the program takes its lines as these options
pub record SaysOptions (text : List ℕ) (options : Options) : Type 0 where
  pub utf8 : IsUtf8 text
  pub says : options_asked (option_words text) ≡ Some options

-- ---- the model with its options

-- the texts say this model and these options, and the model has what the options name
pub record Fits (given : Given) (model : ModelParts) (options : Options) : Type 0 where
  pub said : SaysOptions given.options options
  pub is_model : IsModel given.model model
  pub present : absent_in (Some options) model ≡ None

-- ---- opening

-- the program is the model's and the desk is over the policy that the texts say, at version 0 with nothing pending: it stands before
-- all items of a session
pub record AreOpenedFrom (given : Given) (model : ModelParts) (desk : Work) : Type 0 where
  pub options : Options
  pub fits : Fits given model options
  pub shapes : desk.state.shapes ≡ shapes_with (Some options) model
  pub policy : IsPolicy desk.state.shapes given.policy (tables desk.state)
  pub version : versions desk.state.log ≡ 0
  pub pending : desk.pending ≡ []
  pub kept : desk.kept ≡ None
  pub first : StandsBehind (tables desk.state) [] desk

-- an enforcer of these, which has refused nothing
pub record IsOpenedFrom (given : Given) (opened : Enforcing) : Type 0 where
  pub desk : Work
  pub parts : AreOpenedFrom given opened.model desk
  pub is : opened ≡ record { model = opened.model; place = at_desk desk; refusals = none_refused }

-- of some options that are said, and the model, this holds
abbrev pub BehindModel : Given → (Options → ModelParts → Type 0) → Type 0
BehindModel given Holds = (options : Options) × (model : ModelParts) × SaysOptions given.options options × IsModel given.model model × Holds options model

-- of options and the model that has what they name, this holds
abbrev pub BehindOptions : Given → (Options → ModelParts → Type 0) → Type 0
BehindOptions given Holds = (options : Options) × (model : ModelParts) × Fits given model options × Holds options model

-- why no enforcer was opened, in the order of reading: options, model, what the options name, policy
abbrev pub OpeningStops : Given → Stop → Type 0
OpeningStops given Words = (options : Options) → SaysOptions given.options options → ⊥
OpeningStops given (NoModel fault) = IsModelFault given.model fault
OpeningStops given (NoRelation relation) = BehindModel given (λ options model. absent_in (Some options) model ≡ Some relation)
OpeningStops given (TooLong part.Policy) = BehindOptions given (λ options model. limit_of part.Policy < length given.policy)
OpeningStops given (NoPolicy fault) = BehindOptions given (λ options model. IsPolicyFault (shapes_with (Some options) model) given.policy fault)
OpeningStops given NoMemory = ⊤
OpeningStops given _ = ⊥
