use Rattle.matcher_read.proofs.LawLemmas.{no_matcher_with_fault}
use Rattle.matcher_read.proofs.laws.faulty_text_is_no_matcher.Goals as goal

pub returns : goal.returns
returns c = no_matcher_with_fault
