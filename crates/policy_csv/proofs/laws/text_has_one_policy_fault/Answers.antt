use Rattle.text_parts.proofs.ReaderLemmas.{one_fault}
use Rattle.policy_csv.proofs.PolicyLemmas.{text_read}
use Rattle.policy_csv.proofs.laws.text_has_one_policy_fault.Goals as goal

pub returns : goal.returns
returns c = λ shapes bytes. one_fault (text_read shapes bytes)
