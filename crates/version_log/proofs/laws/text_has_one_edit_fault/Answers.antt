use Rattle.version_log.proofs.ReadLemmas.{one_fault}
use Rattle.version_log.proofs.laws.text_has_one_edit_fault.Goals as goal

pub returns : goal.returns
returns c = one_fault
