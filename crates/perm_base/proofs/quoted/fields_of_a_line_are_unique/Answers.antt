use Rattle.perm_base.proofs.FieldLineLemmas.{IsFields-once}
use Rattle.perm_base.proofs.quoted.fields_of_a_line_are_unique.Goals as goal

pub returns : goal.returns
returns c = IsFields-once
