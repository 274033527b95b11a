use Rattle.text_parts.proofs.ReaderLemmas.{value_or_fault}
use Rattle.policy_csv.proofs.PolicyLemmas.{text_read}
use Rattle.policy_csv.proofs.laws.every_text_is_a_policy_or_at_fault.Goals as goal

pub returns : goal.returns
returns c = λ shapes bytes. value_or_fault (text_read shapes bytes)
