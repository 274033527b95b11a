use Rattle.std.proofs.Common.{ℕ, List, subst}
use Rattle.model_conf.specs.Faults.{IsModelFault}
use Rattle.model_conf.specs.ModelText.{IsModel}
use Rattle.file_lint.proofs.model_errors.fault_in.Goals as goal

pub returns-in_default : goal.returns-in_default
returns-in_default c = (c.in_default.field-0, subst (λ (b : List ℕ). IsModel b c.in_default.field-0) c.as_bytes.ensures.value c.in_default.ensures.found)

pub returns : goal.returns
returns c = subst (λ (b : List ℕ). IsModelFault b c.in-Err.next) c.as_bytes.ensures.value (c.in-Err.ensures.fault c.in_ok-unless_model_want.ensures)
