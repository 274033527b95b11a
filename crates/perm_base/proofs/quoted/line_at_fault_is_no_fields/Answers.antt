use Rattle.perm_base.proofs.FieldLineLemmas.{IsFields-no_fault}
use Rattle.perm_base.proofs.quoted.line_at_fault_is_no_fields.Goals as goal

pub returns : goal.returns
returns c = λ line fault fields bad is. IsFields-no_fault line fields fault is bad
