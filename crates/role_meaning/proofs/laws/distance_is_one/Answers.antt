use Rattle.role_meaning.proofs.Reach.{far_there}
use Rattle.role_meaning.proofs.laws.distance_is_one.Goals as goal

pub returns-clause-there : goal.returns-clause-there
returns-clause-there c = far_there c.links_are_decided.ensures.fits
