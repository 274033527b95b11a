-- The code of a part.
use Rattle.std.specs.Prelude.{◌≡◌, ◌≤◌, Bool, length, Result}
use Rattle.effect_fold.specs.declared.fault.Fault.{Fault}
use Rattle.model_conf.specs.ModelText.{ModelParts}
use Rattle.matcher_meaning.specs.Answers.{Evaluation}
use Rattle.matcher_meaning.specs.Cases.{Case}
use Rattle.matcher_meaning.specs.Comes.{TruthIs}
use Rattle.matcher_code.specs.Compiled.{as_answer}
use Rattle.matcher_code.specs.Machine.{CodeComesTo}
use Rattle.matcher_code.specs.Rules.{CodeParts}

-- whatever the code comes to in a case of the model is the truth of its matcher
pub record IsCodeOf (model : ModelParts) (code : CodeParts) : Type 0 where
  pub columns : code.policy_columns ≡ length model.policy
  pub height : code.height ≤ 1024
  pub truth : (case : Case) (r : Evaluation) → case.model ≡ model → CodeComesTo case code.ops r → (t : Result Bool Fault) × (r ≡ as_answer t) × TruthIs case model.matcher t
