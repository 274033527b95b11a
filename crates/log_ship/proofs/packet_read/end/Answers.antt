use Rattle.std.proofs.Common.{◌≡◌, ◌<◌, ◌∷◌, ◌++◌, [], length, sym, subst, ◌∙◌, arith, rules, eqb-true}
use Rattle.std.proofs.lemmas.Bool.{eqb-false}
use Rattle.std.proofs.lemmas.List.{nil_from_length}
use Rattle.log_ship.proofs.ReadLemmas.{cut_line, cut_open, read_text, stray_last}
use Rattle.log_ship.specs.Helps.Reads.{HasRead}
use Rattle.log_ship.specs.PacketText.{AreFront, ArePackets}
use Rattle.text_parts.specs.Lines.{with_ends}
use Rattle.log_ship.proofs.packet_read.end.Goals as goal

pub returns-in-Between-clause-found : goal.returns-in-Between-clause-found
returns-in-Between-clause-found c = λ front read utf8.
    let none : c.args.rest.now ≡ [] = nil_from_length c.args.rest.now (eqb-true (length c.args.rest.now) 0 (sym c.is_empty.ensures ∙ c.if-is_empty.true)) in
    subst (ArePackets (with_ends front ++ c.args.rest.now)) (sym c.from_vec.ensures)
    (read_text front c.args.reading.packets.items c.args.rest.now (subst (HasRead front c.args.reading.packets.items) c.in-Between.is read) none utf8)

pub returns-in_default-clause-fault : goal.returns-in_default-clause-fault
returns-in_default-clause-fault c = λ front read numbered some.
    let none : c.args.rest.now ≡ [] = nil_from_length c.args.rest.now (eqb-true (length c.args.rest.now) 0 (sym c.is_empty.ensures ∙ c.if-is_empty.true)) in
    cut_open front c.args.reading.packets.items c.in_default.field-0 c.args.number c.in_default.field-1 c.args.rest.now (subst (HasRead front c.args.reading.packets.items) c.in_default.is read) none numbered

pub returns-in_default-2-clause-fault : goal.returns-in_default-2-clause-fault
returns-in_default-2-clause-fault c = λ front read numbered some.
    let none : ¬ (AreFront (front ++ c.args.rest.now ∷ [])) = rw c.in_default-2.is at (c.in_ok-_reading.ensures.stray front read) in
    let long : 0 < length c.args.rest.now = omega (arith, eqb-false (length c.args.rest.now) 0 (sym c.is_empty.ensures ∙ c.if-is_empty.false)) in
    stray_last front c.args.reading.packets.items c.args.reading.place c.args.rest.now c.args.number read none long c.requires numbered

pub returns-clause-fault : goal.returns-clause-fault
returns-clause-fault c = λ front read numbered some.
    let taken : HasRead (front ++ c.args.rest.now ∷ []) c.in-Some._reading.packets.items c.in-Some._reading.place = search rules in
    let long : 0 < length c.args.rest.now = omega (arith, eqb-false (length c.args.rest.now) 0 (sym c.is_empty.ensures ∙ c.if-is_empty.false)) in
    cut_line front c.args.reading.packets.items c.in-Some._reading.packets.items c.args.reading.place c.in-Some._reading.place c.args.rest.now c.saturating_add.result read taken long c.requires (omega (arith, numbered, c.saturating_add.ensures))
