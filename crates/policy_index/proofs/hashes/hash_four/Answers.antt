use Rattle.policy_index.proofs.HashLemmas.{four_bytes}
use Rattle.policy_index.proofs.hashes.hash_four.Goals as goal

pub returns : goal.returns
returns c = four_bytes c.args.hash c.args.first c.args.second c.args.third c.args.fourth
