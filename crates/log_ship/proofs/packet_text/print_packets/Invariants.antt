use Rattle.std.specs.String.{string_bytes}
use Rattle.log_ship.proofs.ShipLemmas.{IsUpTo}
use Rattle.log_ship.proofs.packet_text.print_packets.Given as goal

abbrev pub invariant-loop-before : goal.invariant-loop-before
invariant-loop-before l = IsUpTo l.state.log l.before (string_bytes l.text)
