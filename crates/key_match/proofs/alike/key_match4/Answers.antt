use Rattle.std.proofs.Common.{List, sym, subst}
use Rattle.key_match.specs.Pieces.{Piece}
use Rattle.key_match.specs.Patterns.{brace_pieces}
use Rattle.key_match.specs.Helps.Given.{CoversGiven}
use Rattle.key_match.specs.declared.token.Dialect.TheVariants.{Brace}
use Rattle.key_match.specs.declared.alike.Given.{Nothing}
use Rattle.key_match.proofs.Readings.{pieces_at-start}
use Rattle.key_match.proofs.Agree.{CoversGiven-nothing, CoversAlike-given}
use Rattle.key_match.proofs.alike.key_match4.Goals as goal

pub returns : goal.returns
returns c =
    let key = c.args.key.now in
    let pieces = brace_pieces c.args.pattern.now in
    let same = pieces_at-start Brace c.args.pattern.now in (
      λ h. CoversAlike-given Nothing pieces key (subst (λ (ps : List Piece). CoversGiven Nothing ps key) same (c.fits_given.ensures.0 h)),
      λ covers. c.fits_given.ensures.1 (subst (λ (ps : List Piece). CoversGiven Nothing ps key) (sym same) (CoversGiven-nothing pieces key covers)),
    )
