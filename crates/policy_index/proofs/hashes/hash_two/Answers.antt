use Rattle.policy_index.proofs.HashLemmas.{two_bytes}
use Rattle.policy_index.proofs.hashes.hash_two.Goals as goal

pub returns : goal.returns
returns c = two_bytes c.args.hash c.args.first c.args.second
