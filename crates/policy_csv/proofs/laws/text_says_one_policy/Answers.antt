use Rattle.text_parts.proofs.ReaderLemmas.{one_value}
use Rattle.policy_csv.proofs.PolicyLemmas.{text_read}
use Rattle.policy_csv.proofs.laws.text_says_one_policy.Goals as goal

pub returns : goal.returns
returns c = λ shapes bytes. one_value (text_read shapes bytes)
