use Rattle.log_ship.proofs.DecideLemmas.{input_decides}
use Rattle.log_ship.proofs.laws.every_input_is_packets_or_at_fault.Goals as goal

pub returns : goal.returns
returns c = input_decides
