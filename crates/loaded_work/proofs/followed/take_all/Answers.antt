use Rattle.std.specs.Prelude.{string_bytes}
use Rattle.loaded_work.proofs.FollowLemmas.{taken_all, taken_next, taken_none}
use Rattle.loaded_work.proofs.followed.take_all.Goals as goal

pub loop-packet-init : goal.loop-packet-init
loop-packet-init c = taken_none c.args.follower.now _ c.new-text.ensures.bytes

pub loop-packet-preserved : goal.loop-packet-preserved
loop-packet-preserved c =
    let is = c.in_ok-take_one.ensures in
    taken_next _ c.as_slice-sent.result.now c.loop-packet.packet-index c.packet-item.result c.loop-packet.follower c.take_one.new.follower c.loop-packet.number c.next_number-number.result (string_bytes c.loop-packet.text) (string_bytes c.take_one.new.text)
    is.result c.loop-packet.invariant c.loop-packet-test.true c.packet-item.is c.next_number-number.ensures is.takes is.known is.appended

pub returns : goal.returns
returns c = taken_all _ c.as_slice-sent.result.now c.args.packets.now c.as_slice-sent.ensures c.loop-packet.packet-index c.loop-packet-test.false c.loop-packet.follower c.loop-packet.number (string_bytes c.loop-packet.text) c.loop-packet.invariant
