use Rattle.std.proofs.Common.{sym, ◌∙◌, ap, inr, refl}
use Rattle.std.proofs.lemmas.Bool.{false≢true}
use Rattle.key_match.specs.Helps.Fits.{pieces_fit}
use Rattle.key_match.specs.Helps.Tokens.{piece_of, pieces_of}
use Rattle.key_match.specs.Helps.Parts.{order_of}
use Rattle.key_match.proofs.Readings.{pieces_at-start}
use Rattle.key_match.proofs.Covers.{fits-from_Covers}
use Rattle.key_match.proofs.Settled.{settled_start, settled_step, settled_found, settled_end}
use Rattle.key_match.proofs.part.named_part.Goals as goal

pub returns-then-not-fits_from : goal.returns-then-not-fits_from
returns-then-not-fits_from c =
    let key = c.args.key.now in
    let pieces = pieces_of c.args.dialect c.args.pattern.now in
    inr (
      λ covers.
          let whole = ap (λ ps. pieces_fit ps key) (pieces_at-start c.args.dialect c.args.pattern.now) ∙ fits-from_Covers pieces key covers in
          false≢true (sym c.if-not-fits_from.true ∙ c.fits_from.ensures ∙ whole),
      refl,
    )

pub loop-reading-init : goal.loop-reading-init
loop-reading-init c =
    settled_start (order_of c.args.segments) c.args.dialect c.args.pattern.now c.args.key.now c.args.name.now (sym c.fits_from.ensures ∙ c.if-not-fits_from.false)

pub returns-then-is_named : goal.returns-then-is_named
returns-then-is_named c =
    settled_found c.args.segments (pieces_of c.args.dialect c.args.pattern.now) (piece_of c.in-Some.reading.token) c.args.dialect c.args.pattern.now c.args.key.now c.args.name.now c.loop-reading.at c.in-Some.reading.next c.part_end-end.result
    c.loop-reading.invariant c.in-Some.ensures.found.pieces c.part_end-end.ensures (sym c.is_named.ensures ∙ c.if-is_named.true)

pub loop-reading-preserved : goal.loop-reading-preserved
loop-reading-preserved c =
    settled_step (order_of c.args.segments) (pieces_of c.args.dialect c.args.pattern.now) (piece_of c.in-Some.reading.token) c.args.dialect c.args.pattern.now c.args.key.now c.args.name.now c.loop-reading.at c.in-Some.reading.next c.part_end-end.result
    c.loop-reading.invariant c.in-Some.ensures.found.pieces c.part_end-end.ensures (sym c.is_named.ensures ∙ c.if-is_named.false)

pub returns : goal.returns
returns c =
    settled_end c.args.segments (pieces_of c.args.dialect c.args.pattern.now) c.args.dialect c.args.pattern.now c.args.key.now c.args.name.now c.loop-reading.at
    c.loop-reading.invariant c.in_default.ensures.ended
