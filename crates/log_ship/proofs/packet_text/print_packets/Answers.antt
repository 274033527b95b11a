use Rattle.std.specs.String.{string_bytes}
use Rattle.log_ship.proofs.ShipLemmas.{one_packet}
use Rattle.log_ship.proofs.packet_text.print_packets.Goals as goal

pub loop-before-preserved : goal.loop-before-preserved
loop-before-preserved c =
    one_packet c.args.state.now.log c.loop-before.before (string_bytes c.loop-before.text) (string_bytes c.push_packet.new.text) c.in-Ok.packet c.loop-before.invariant c.in-Ok.ensures.answer c.in_ok-push_packet.ensures
