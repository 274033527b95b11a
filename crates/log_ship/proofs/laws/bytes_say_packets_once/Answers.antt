use Rattle.log_ship.proofs.PartLemmas.{packets_once}
use Rattle.log_ship.proofs.ReadLemmas.{fault_no_packets, fault_once}
use Rattle.log_ship.proofs.laws.bytes_say_packets_once.Goals as goal

pub returns-clause-packets : goal.returns-clause-packets
returns-clause-packets c = packets_once

pub returns-clause-fault : goal.returns-clause-fault
returns-clause-fault c = fault_once

pub returns-clause-apart : goal.returns-clause-apart
returns-clause-apart c = fault_no_packets
