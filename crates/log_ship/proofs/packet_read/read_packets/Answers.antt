use Rattle.log_ship.proofs.ReadLemmas.{only_fault_of, only_of}
use Rattle.log_ship.proofs.packet_read.read_packets.Goals as goal

pub returns-clause-only : goal.returns-clause-only
returns-clause-only c = only_of c.in-Ok.text.now c.args.bytes.now c.in-Ok.ensures.cases.0 c.packets_of.result c.packets_of.ensures.found c.packets_of.ensures.fault

pub returns-clause-only_fault : goal.returns-clause-only_fault
returns-clause-only_fault c = only_fault_of c.in-Ok.text.now c.args.bytes.now c.in-Ok.ensures.cases.0 c.packets_of.result c.packets_of.ensures.found c.packets_of.ensures.fault
