use Rattle.key_match.proofs.Divided.{star_decided, covers_decided, alike_decided}
use Rattle.key_match.proofs.laws.covering_is_decided.Goals as goal

pub returns-clause-star : goal.returns-clause-star
returns-clause-star c key pattern = star_decided key pattern

pub returns-clause-covers : goal.returns-clause-covers
returns-clause-covers c pieces text = covers_decided pieces text

pub returns-clause-alike : goal.returns-clause-alike
returns-clause-alike c pieces text = alike_decided pieces text
