-- Faults that say that memory ran out; only private functions cite this.
use Rattle.std.specs.Prelude.{Bool, true, false}
use Rattle.model_conf.specs.declared.fault.ModelFault.{ModelFault}
use Rattle.model_conf.specs.declared.fault.ModelFault.TheVariants as models
use Rattle.policy_csv.specs.declared.fault.PolicyFault.{PolicyFault}
use Rattle.policy_csv.specs.declared.fault.PolicyFault.TheVariants as policies

abbrev pub is_model_want : ModelFault → Bool
is_model_want models.NoMemory = true
is_model_want _ = false

abbrev pub is_policy_want : PolicyFault → Bool
is_policy_want policies.NoMemory = true
is_policy_want _ = false
