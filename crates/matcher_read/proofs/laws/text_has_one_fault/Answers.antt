use Rattle.matcher_read.proofs.LawLemmas.{one_fault}
use Rattle.matcher_read.proofs.laws.text_has_one_fault.Goals as goal

pub returns : goal.returns
returns c = one_fault
