use Rattle.ip_match.proofs.UniqueLemmas.{block_unique}
use Rattle.ip_match.proofs.block.block_is_unique.Goals as goal

pub returns : goal.returns
returns c = block_unique
