use Rattle.perm_base.proofs.FieldLineLemmas.{line_decides}
use Rattle.perm_base.proofs.quoted.every_line_is_fields_or_at_fault.Goals as goal

pub returns : goal.returns
returns c = line_decides
