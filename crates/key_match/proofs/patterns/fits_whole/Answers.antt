use Rattle.std.proofs.Common.{◌≡◌, ap, ◌∙◌, sym}
use Rattle.key_match.specs.Helps.Tokens.{pieces_of}
use Rattle.key_match.specs.Helps.Fits.{pieces_fit}
use Rattle.key_match.proofs.Readings.{pieces_at-start}
use Rattle.key_match.proofs.Covers.{Covers-from_fits, fits-from_Covers}
use Rattle.key_match.proofs.patterns.fits_whole.Goals as goal

pub returns : goal.returns
returns c =
    let key = c.args.key.now in
    let pieces = pieces_of c.args.dialect c.args.pattern.now in
    let same : c.fits_from.result ≡ pieces_fit pieces key = c.fits_from.ensures ∙ ap (λ ps. pieces_fit ps key) (pieces_at-start c.args.dialect c.args.pattern.now) in
    (λ h. Covers-from_fits pieces key (sym same ∙ h), λ h. same ∙ fits-from_Covers pieces key h)
