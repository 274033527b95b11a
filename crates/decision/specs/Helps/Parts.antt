-- What a program keeps beside its model.
use Rattle.std.specs.Prelude.{◌≡◌, ◌≤◌, ℕ, Bool, codes, length, Option, position, Result}
use Rattle.std.specs.Str.{bytes_eq}
use Rattle.effect_fold.specs.declared.fault.Fault.{Fault}
use Rattle.model_conf.specs.ModelText.{ModelParts}
use Rattle.matcher_meaning.specs.Answers.{Evaluation}
use Rattle.matcher_meaning.specs.Cases.{Case}
use Rattle.matcher_meaning.specs.Comes.{TruthIs, takes_memory}
use Rattle.matcher_meaning.specs.Perm.{names_policy}
use Rattle.matcher_code.specs.Compiled.{as_answer}
use Rattle.matcher_code.specs.Machine.{CodeComesTo}
use Rattle.matcher_code.specs.Rules.{CodeParts}
use Rattle.matcher_code.specs.RunEnds.{some_takes_memory}
use Rattle.decision.specs.Helps.KeptPlans.{IsPlanOf}
use Rattle.decision.specs.declared.plan.KeptPlan.{KeptPlan}

-- the code of the model's matcher, whether this names a column of the policy, the places of the columns `eft` and `dom`, and what is kept of the plan
pub record IsProgram (model : ModelParts) (code : CodeParts) (by_row : Bool) (effect_place domain_place : Option ℕ) (plan : Option KeptPlan) : Type 0 where
  pub columns : code.policy_columns ≡ length model.policy
  pub height : code.height ≤ 1024
  pub truth : (case : Case) (r : Evaluation) → case.model ≡ model → CodeComesTo case code.ops r → (t : Result Bool Fault) × (r ≡ as_answer t) × TruthIs case model.matcher t
  pub takes : some_takes_memory code.ops ≡ takes_memory model.matcher
  pub rows : by_row ≡ names_policy model.matcher
  pub effect : effect_place ≡ position (bytes_eq (codes "eft")) model.policy
  pub domain : domain_place ≡ position (bytes_eq (codes "dom")) model.policy
  pub kept : IsPlanOf model plan
