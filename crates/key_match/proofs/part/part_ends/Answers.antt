use Rattle.std.proofs.Common.{◌+◌, sym, subst}
use Rattle.key_match.specs.Helps.Tokens.{piece_of, set_of}
use Rattle.key_match.specs.Helps.Parts.{HasPart, AreEnds}
use Rattle.key_match.specs.declared.token.Token.{Token}
use Rattle.key_match.proofs.Parts.{AreEnds-one, AreEnds-segment, AreEnds-stretch}
use Rattle.key_match.proofs.part.part_ends.Goals as goal

pub returns-in-One : goal.returns-in-One
returns-in-One c =
    let key = c.args.key.now in
    let from = c.args.from in
    let has = subst (λ (token : Token). HasPart (piece_of token) key from) c.in-One.is c.requires in
    subst (λ (token : Token). AreEnds (piece_of token) key from (record { least = from + 1; most = from + 1 })) (sym c.in-One.is) (AreEnds-one (set_of c.in-One.field-0) key from has)

pub returns-in-Segment : goal.returns-in-Segment
returns-in-Segment c =
    let key = c.args.key.now in
    let from = c.args.from in
    let has = subst (λ (token : Token). HasPart (piece_of token) key from) c.in-Segment.is c.requires in
    subst (λ (token : Token). AreEnds (piece_of token) key from (record { least = from + 1; most = c.place_from.result })) (sym c.in-Segment.is)
    (AreEnds-segment c.in-Segment.field-0.now key from c.place_from.result c.place_from.ensures.place c.place_from.ensures.within has)

pub returns-in-Stretch : goal.returns-in-Stretch
returns-in-Stretch c =
    let key = c.args.key.now in
    let from = c.args.from in
    let place = c.place_from-in-Stretch in
    subst (λ (token : Token). AreEnds (piece_of token) key from (record { least = from; most = place.result })) (sym c.in-Stretch.is)
    (AreEnds-stretch key from place.result place.ensures.place place.ensures.within)
