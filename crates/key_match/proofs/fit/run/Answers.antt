use Rattle.std.proofs.Common.{◌≡◌, true, ◌∷◌, get_or, ap, sym, ◌∙◌, arith}
use Rattle.key_match.specs.Pieces.{One, Segment, has}
use Rattle.key_match.specs.Helps.Tokens.{pieces_at, piece_of, set_of}
use Rattle.key_match.specs.declared.token.Token.{Token}
use Rattle.key_match.proofs.Leads.{LeadsTo-byte, LeadsTo-segment, pattern_ended, not_slash-other}
use Rattle.key_match.proofs.fit.run.Goals as goal

pub returns-in-Segment : goal.returns-in-Segment
returns-in-Segment c =
    let pattern = c.args.pattern.now in
    let key = c.args.key.now in
    let at = c.loop-reading.at in
    let next = pieces_at c.args.dialect pattern c.in-Some.reading.next in
    let read : pieces_at c.args.dialect pattern at.pattern ≡ Segment c.in-Segment.field-0.now ∷ next =
    c.in-Some.ensures.found.pieces ∙ ap (λ (token : Token). piece_of token ∷ next) c.in-Segment.is in
    let ahead = c.in-Some.ensures.found in
    record {
      leads =
          LeadsTo-segment _ (pieces_at c.args.dialect pattern at.pattern) next _ key at.key c.in-Segment.field-0.now c.loop-reading.invariant.leads read (omega arith)
          (not_slash-other (get_or key at.key 0) c.if-key-at-eq47.false);
      ahead = record { pattern_after = omega arith; pattern_within = omega arith; key_from = omega arith; key_within = omega arith };
    }

pub loop-reading-preserved : goal.loop-reading-preserved
loop-reading-preserved c =
    let pattern = c.args.pattern.now in
    let key = c.args.key.now in
    let at = c.loop-reading.at in
    let next = pieces_at c.args.dialect pattern c.in-Some.reading.next in
    let bytes = set_of c.in-One.test in
    let read : pieces_at c.args.dialect pattern at.pattern ≡ One bytes ∷ next =
    c.in-Some.ensures.found.pieces ∙ ap (λ (token : Token). piece_of token ∷ next) c.in-One.is in
    let ahead = c.in-Some.ensures.found in
    let passes : has bytes (get_or key at.key 0) ≡ true = sym c.passes.ensures ∙ c.if-not-passes.false in
    record {
      leads = LeadsTo-byte _ (pieces_at c.args.dialect pattern at.pattern) next _ key at.key bytes c.loop-reading.invariant.leads read (omega arith) passes;
      pattern_from = omega arith;
      key_from = omega arith;
      key_within = omega arith;
    }

pub returns-else-at-key-3 : goal.returns-else-at-key-3
returns-else-at-key-3 c =
    pattern_ended _ (pieces_at c.args.dialect c.args.pattern.now c.loop-reading.at.pattern) _ c.args.key.now c.loop-reading.at.key c.loop-reading.invariant.leads c.in_default.ensures.ended (omega arith)
