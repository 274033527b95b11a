use Rattle.std.proofs.Common.{length}
use Rattle.log_ship.proofs.ReadLemmas.{IsUpTo}
use Rattle.log_ship.proofs.packet_read.packets_of.Given as goal

abbrev pub invariant-loop-line : goal.invariant-loop-line
invariant-loop-line l = IsUpTo l.text l.rest l.reading.packets.items l.reading.place l.number

abbrev pub decreases-loop-line : goal.decreases-loop-line
decreases-loop-line l = length l.rest
