use Rattle.matcher_read.proofs.LawLemmas.{one_matcher}
use Rattle.matcher_read.proofs.laws.text_says_one_matcher.Goals as goal

pub returns : goal.returns
returns c = one_matcher
