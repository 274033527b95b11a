-- What parts of opening an enforcer come to.
use Rattle.std.specs.Prelude.{◌≡◌, ℕ, ◌<◌, ⊤, List, [], None, length}
use Rattle.decision.specs.Programs.{Suits}
use Rattle.loaded_work.specs.declared.loaded.Loaded.{Loaded}
use Rattle.model_conf.specs.ModelText.{ModelParts}
use Rattle.perm_base.specs.declared.shapes.Shapes.{Shapes}
use Rattle.policy_csv.specs.Faults.{IsPolicyFault}
use Rattle.policy_desk.specs.Desks.{IsDesk, Work}
use Rattle.policy_state.specs.States.{tables}
use Rattle.run_status.specs.Parts.{limit_of}
use Rattle.run_status.specs.declared.part.Part.TheVariants as part
use Rattle.run_status.specs.declared.stop.Stop.{Stop}
use Rattle.run_status.specs.declared.stop.Stop.TheVariants.{NoPolicy, TooLong, NoMemory}
use Rattle.version_log.specs.Log.{versions}

-- why the policy was not read
abbrev pub PolicyStops : Shapes → List ℕ → Stop → Type 0
PolicyStops shapes bytes (TooLong part.Policy) = limit_of part.Policy < length bytes
PolicyStops shapes bytes (NoPolicy fault) = IsPolicyFault shapes bytes fault
PolicyStops shapes bytes NoMemory = ⊤
PolicyStops shapes bytes _ = ⊥

-- the program is of what was loaded, and the desk is over its policy, at version 0 with nothing pending
pub record AreMade (loaded : Loaded) (program : ModelParts) (desk : Work) : Type 0 where
  pub model_is : program ≡ loaded.model
  pub shapes_are : desk.state.shapes ≡ loaded.shapes
  pub policy_is : tables desk.state ≡ loaded.tables.policy
  pub suits : Suits program desk.state.shapes
  pub version : versions desk.state.log ≡ 0
  pub pending : desk.pending ≡ []
  pub kept : desk.kept ≡ None
  pub is_desk : IsDesk desk
