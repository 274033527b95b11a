use Rattle.role_meaning.proofs.PlainNames.{plain_fits}
use Rattle.role_meaning.proofs.laws.plain_names_fit_themselves_alone.Goals as goal

pub returns : goal.returns
returns c = plain_fits
