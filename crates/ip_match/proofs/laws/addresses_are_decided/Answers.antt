use Rattle.ip_match.proofs.DecidedAddressLemmas.{address_decided, block_decided, inside_decided}
use Rattle.ip_match.proofs.laws.addresses_are_decided.Goals as goal

pub returns-clause-address : goal.returns-clause-address
returns-clause-address c text = address_decided text

pub returns-clause-block : goal.returns-clause-block
returns-clause-block c text = block_decided text

pub returns-clause-inside : goal.returns-clause-inside
returns-clause-inside c a b bits = inside_decided a b bits
