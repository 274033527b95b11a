use Rattle.text_parts.proofs.ReaderLemmas.{never_both}
use Rattle.policy_csv.proofs.PolicyLemmas.{text_read}
use Rattle.policy_csv.proofs.laws.faulty_text_is_no_policy.Goals as goal

pub returns : goal.returns
returns c = λ shapes bytes. never_both (text_read shapes bytes)
