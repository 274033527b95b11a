-- Faults that say that memory ran out, by their test.
use Rattle.std.proofs.Common.{◌≡◌, ◌≢◌, true, false, sym, ap, ◌∙◌}
use Rattle.model_conf.specs.declared.fault.ModelFault.{ModelFault}
use Rattle.model_conf.specs.declared.fault.ModelFault.TheVariants as models
use Rattle.policy_csv.specs.declared.fault.PolicyFault.{PolicyFault}
use Rattle.policy_csv.specs.declared.fault.PolicyFault.TheVariants as policies
use Rattle.file_lint.specs.Helps.Wants.{is_model_want, is_policy_want}

pub no_model_want : (fault : ModelFault) → is_model_want fault ≡ false → fault ≢ models.NoMemory
no_model_want fault other = λ same. let both : true ≡ false = sym (ap is_model_want same) ∙ other in absurd cc

pub no_policy_want : (fault : PolicyFault) → is_policy_want fault ≡ false → fault ≢ policies.NoMemory
no_policy_want fault other = λ same. let both : true ≡ false = sym (ap is_policy_want same) ∙ other in absurd cc
