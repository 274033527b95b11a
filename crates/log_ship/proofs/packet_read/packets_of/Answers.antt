use Rattle.std.proofs.Common.{◌∷◌, ◌++◌, [], IsUtf8, rules}
use Rattle.log_ship.proofs.ReadLemmas.{line_more, line_stray}
use Rattle.log_ship.specs.Helps.Reads.{HasRead}
use Rattle.log_ship.specs.PacketText.{AreFront}
use Rattle.log_ship.proofs.packet_read.packets_of.Goals as goal

pub returns-in_default-2-clause-fault : goal.returns-in_default-2-clause-fault
returns-in_default-2-clause-fault c = λ some.
    let none : ¬ (AreFront (c.loop-line.invariant.front ++ c.in-Some.line.now ∷ [])) = rw c.in_default-2.is at (c.in_ok-next.ensures.stray c.loop-line.invariant.front c.loop-line.invariant.read) in
    (c.utf8.text, line_stray c.args.text.now c.loop-line.rest.now c.in-Some.line.now c.in-Some.after.now c.loop-line.reading.packets.items c.loop-line.reading.place c.loop-line.number c.loop-line.invariant c.in-Some.ensures.parts c.in-Some.ensures.first none)

pub loop-line-preserved : goal.loop-line-preserved
loop-line-preserved c =
    let taken : HasRead (c.loop-line.invariant.front ++ c.in-Some.line.now ∷ []) c.in-Some-2.next.packets.items c.in-Some-2.next.place = search rules in
    let utf8 : IsUtf8 c.in-Some.after.now = search rules in
    line_more c.args.text.now c.loop-line.rest.now c.in-Some.line.now c.in-Some.after.now c.loop-line.reading.packets.items c.in-Some-2.next.packets.items c.loop-line.reading.place c.in-Some-2.next.place c.loop-line.number
    c.saturating_add-number.result c.loop-line.invariant c.in-Some.ensures.parts taken c.saturating_add-number.ensures utf8
