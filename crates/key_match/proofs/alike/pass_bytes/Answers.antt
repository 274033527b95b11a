use Rattle.std.proofs.Common.{◌≡◌, ◌∷◌, true, drop, ap, sym, ◌∙◌, subst, arith, List}
use Rattle.key_match.specs.Pieces.{Piece, One}
use Rattle.key_match.specs.Helps.Fits.{pieces_fit}
use Rattle.key_match.specs.Helps.Tokens.{pieces_at, piece_of, set_of}
use Rattle.key_match.specs.Helps.Given.{CoversGiven}
use Rattle.key_match.specs.declared.token.Dialect.TheVariants.{Brace}
use Rattle.key_match.specs.declared.token.Token.{Token}
use Rattle.key_match.proofs.Agree.{byte-fits, byte-forward, byte-backward}
use Rattle.key_match.proofs.alike.pass_bytes.Goals as goal

pub loop-reading-preserved : goal.loop-reading-preserved
loop-reading-preserved c =
    let pattern = c.args.pattern.now in
    let key = c.args.key.now in
    let at = c.loop-reading.at in
    let passes = c.loop-reading.invariant in
    let bytes = set_of c.in-One.field-0 in
    let next = pieces_at Brace pattern c.in-Some.reading.next in
    let read : pieces_at Brace pattern at.pattern ≡ One bytes ∷ next =
    c.in-Some.ensures.found.pieces ∙ ap (λ (token : Token). piece_of token ∷ next) c.in-One.is in
    let fitting : pieces_fit (One bytes ∷ next) (drop at.key key) ≡ true = ap (λ pieces. pieces_fit pieces (drop at.key key)) (sym read) ∙ passes.fitting in
    let more = byte-fits bytes next key at.key passes.key_within fitting in
    record {
      pattern_from = let ahead = c.in-Some.ensures.found in omega arith;
      key_within = more.0;
      fitting = more.1;
      forward = λ given covers.
          byte-forward given bytes next key at.key passes.key_within (subst (λ (pieces : List Piece). CoversGiven given pieces (drop at.key key)) read (passes.forward given covers));
      backward = λ given covers.
          passes.backward given (subst (λ (pieces : List Piece). CoversGiven given pieces (drop at.key key)) (sym read) (byte-backward given bytes next key at.key passes.key_within fitting covers));
    }
