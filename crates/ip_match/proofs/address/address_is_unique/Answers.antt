use Rattle.ip_match.proofs.UniqueLemmas.{address_unique}
use Rattle.ip_match.proofs.address.address_is_unique.Goals as goal

pub returns : goal.returns
returns c = address_unique
