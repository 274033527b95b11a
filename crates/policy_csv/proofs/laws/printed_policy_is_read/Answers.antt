use Rattle.policy_csv.proofs.PrintLemmas.{printed_is_policy}
use Rattle.policy_csv.proofs.laws.printed_policy_is_read.Goals as goal

pub returns : goal.returns
returns c = printed_is_policy
