-- An enforcer that is opened, or why it is not.
use Rattle.std.proofs.Common.{◌≡◌, ℕ, List, [], Some, refl, sym, ap, subst, ◌∙◌}
use Rattle.std.specs.Prelude.{◌≢◌}
use Rattle.command_words.specs.declared.command.Options.{Options}
use Rattle.desk_session.proofs.CallerLemmas.{stands_alone, stands_before}
use Rattle.loaded_work.specs.declared.loaded.Loaded.{Loaded}
use Rattle.model_conf.specs.Faults.{IsModelFault}
use Rattle.model_conf.specs.ModelText.{IsModel, ModelParts}
use Rattle.model_conf.specs.declared.fault.ModelFault.{ModelFault}
use Rattle.model_conf.specs.declared.fault.ModelFault.TheVariants as model_fault
use Rattle.perm_base.specs.declared.shapes.Shapes.{Shapes}
use Rattle.policy_csv.specs.Faults.{IsPolicyFault}
use Rattle.policy_csv.specs.Policy.{IsPolicy}
use Rattle.policy_csv.specs.declared.fault.PolicyFault.{PolicyFault}
use Rattle.policy_csv.specs.declared.fault.PolicyFault.TheVariants as policy_fault
use Rattle.policy_desk.specs.Desks.{Work}
use Rattle.policy_state.specs.States.{StandsFor, State, tables}
use Rattle.run_files.specs.Files.{shapes_with}
use Rattle.run_files.specs.Helps.ReadStops.{ShapesStop}
use Rattle.run_status.specs.declared.part.Part.TheVariants as part
use Rattle.run_status.specs.declared.stop.Stop.{Stop}
use Rattle.run_status.specs.declared.stop.Stop.TheVariants.{Words, NoModel, NoRelation, NoPolicy, NoScript, NoPackets, CannotRead, CannotWrite, TooLong, NoMemory}
use Rattle.run_status.specs.Stops.{model_stop_of, policy_stop_of}
use Rattle.version_log.specs.Log.{versions}
use Rattle.enforce_core.specs.Helps.Made.{AreMade, PolicyStops}
use Rattle.enforce_core.specs.Helps.Words.{OptionStops}
use Rattle.enforce_core.specs.Opened.{AreOpenedFrom, Fits, Given, IsOpenedFrom, OpeningStops, SaysOptions}
use Rattle.enforce_core.specs.Places.{at_desk}
use Rattle.enforce_core.specs.Seen.{Enforcing, none_refused}

-- why a policy was not read, from the fault of its text
pub policy_stopped : (shapes : Shapes) (bytes : List ℕ) (why : PolicyFault) → (why ≢ policy_fault.NoMemory → IsPolicyFault shapes bytes why) → PolicyStops shapes bytes (policy_stop_of why)
policy_stopped shapes bytes policy_fault.NoMemory fault = tt
policy_stopped shapes bytes why fault = fault (λ is. absurd cc)

-- a state at version 0 stands for no edit on its own tables
pub stands_new : (state : State) → versions state.log ≡ 0 → StandsFor state (tables state) []
stands_new state none = record { log = stands_alone state.log none; tables = refl }

module _ (given : Given) where
  -- ---- stops

  pub options_stop : (why : Stop) → OptionStops given.options why → OpeningStops given why
  options_stop Words is = is
  options_stop NoMemory is = tt
  options_stop (NoModel fault) is = absurd is
  options_stop (NoRelation relation) is = absurd is
  options_stop (NoPolicy fault) is = absurd is
  options_stop (NoScript fault) is = absurd is
  options_stop (NoPackets fault) is = absurd is
  options_stop (CannotRead of) is = absurd is
  options_stop CannotWrite is = absurd is
  options_stop (TooLong of) is = absurd is

  pub model_stop : (why : ModelFault) → (why ≢ model_fault.NoMemory → IsModelFault given.model why) → OpeningStops given (model_stop_of why)
  model_stop model_fault.NoMemory fault = tt
  model_stop why fault = fault (λ is. absurd cc)

  module _ (options : Options) (model : ModelParts) where
    pub shapes_stop : (why : Stop) → SaysOptions given.options options → IsModel given.model model → ShapesStop (Some options) model why → OpeningStops given why
    shapes_stop (NoRelation relation) said is absent = (options, model, said, is, absent)
    shapes_stop NoMemory said is absent = tt
    shapes_stop Words said is absent = absurd absent
    shapes_stop (NoModel fault) said is absent = absurd absent
    shapes_stop (NoPolicy fault) said is absent = absurd absent
    shapes_stop (NoScript fault) said is absent = absurd absent
    shapes_stop (NoPackets fault) said is absent = absurd absent
    shapes_stop (CannotRead of) said is absent = absurd absent
    shapes_stop CannotWrite said is absent = absurd absent
    shapes_stop (TooLong of) said is absent = absurd absent

    policy_by : (why : Stop) → Fits given model options → PolicyStops (shapes_with (Some options) model) given.policy why → OpeningStops given why
    policy_by (TooLong part.Policy) fits is = (options, model, fits, is)
    policy_by (NoPolicy fault) fits is = (options, model, fits, is)
    policy_by NoMemory fits is = tt
    policy_by (TooLong part.Model) fits is = absurd is
    policy_by (TooLong part.Input) fits is = absurd is
    policy_by (TooLong part.Report) fits is = absurd is
    policy_by Words fits is = absurd is
    policy_by (NoModel fault) fits is = absurd is
    policy_by (NoRelation relation) fits is = absurd is
    policy_by (NoScript fault) fits is = absurd is
    policy_by (NoPackets fault) fits is = absurd is
    policy_by (CannotRead of) fits is = absurd is
    policy_by CannotWrite fits is = absurd is

    pub policy_stop : (shapes : Shapes) (why : Stop) → Fits given model options → shapes ≡ shapes_with (Some options) model → PolicyStops shapes given.policy why → OpeningStops given why
    policy_stop shapes why fits are stops = policy_by why fits (subst (λ (s : Shapes). PolicyStops s given.policy why) are stops)

    -- ---- opened

    pub opened_from : (loaded : Loaded) (program : ModelParts) (desk : Work) → loaded.model ≡ model → loaded.shapes ≡ shapes_with (Some options) model → Fits given model options → IsPolicy loaded.shapes given.policy loaded.tables.policy → AreMade loaded program desk
        → AreOpenedFrom given program desk
    opened_from loaded program desk same are fits says is =
        let program-is : program ≡ model = is.model_is ∙ same in
        record {
          options = options;
          fits = subst (λ (m : ModelParts). Fits given m options) (sym program-is) fits;
          shapes = is.shapes_are ∙ are ∙ ap (shapes_with (Some options)) (sym program-is);
          policy = subst (λ (s : Shapes). IsPolicy s given.policy (tables desk.state)) (sym is.shapes_are) (subst (IsPolicy loaded.shapes given.policy) (sym is.policy_is) says);
          version = is.version;
          pending = is.pending;
          kept = is.kept;
          first = stands_before desk is.is_desk is.version is.pending is.kept;
        }

  -- and an enforcer of them
  pub enforcer_from : (model : ModelParts) (desk : Work) (made : Enforcing) → AreOpenedFrom given model desk → made ≡ record { model = model; place = at_desk desk; refusals = none_refused } → IsOpenedFrom given made
  enforcer_from model desk made parts is = subst (IsOpenedFrom given) (sym is) (record { desk = desk; parts = parts; is = refl })
