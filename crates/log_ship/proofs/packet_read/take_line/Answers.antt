use Rattle.std.proofs.Common.{◌≡◌, ◌∷◌, ◌++◌, [], codes, subst, refl, rules}
use Rattle.log_ship.proofs.ReadLemmas.{closed, stray_head}
use Rattle.log_ship.specs.Helps.Reads.{HasRead}
use Rattle.log_ship.specs.declared.packet.Packet.{Packet}
use Rattle.log_ship.proofs.packet_read.take_line.Goals as goal

pub returns-then-eq-clause-taken : goal.returns-then-eq-clause-taken
returns-then-eq-clause-taken c = λ front read.
    let packet : Packet = record { number = c.in-Within.number; text = c.from_string-text.result } in
    let more : c.push.new.self.items ≡ c.args.reading.packets.items ++ record { number = c.in-Within.number; text = c.from_string-text.result } ∷ [] = search rules in
    let dot : c.args.line.now ≡ codes "." = search rules in
    closed front c.args.reading.packets.items c.push.new.self.items c.args.line.now c.in-Within.text c.in_ok-text-in-Within.text c.in-Within.number (record { number = c.in-Within.number; text = c.from_string-text.result })
    (subst (HasRead front c.args.reading.packets.items) c.in-Within.is read) dot c.in_ok-text-in-Within.ensures c.requires refl c.from_string-text.ensures more

pub returns-in-None-clause-stray : goal.returns-in-None-clause-stray
returns-in-None-clause-stray c = λ front read. stray_head front c.args.reading.packets.items c.args.line.now (subst (HasRead front c.args.reading.packets.items) c.in-Between.is read) c.in-None.ensures
