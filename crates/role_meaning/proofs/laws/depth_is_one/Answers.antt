use Rattle.role_meaning.proofs.Reach.{depth_there}
use Rattle.role_meaning.proofs.laws.depth_is_one.Goals as goal

pub returns-clause-there : goal.returns-clause-there
returns-clause-there c = depth_there c.links_are_decided.ensures.fits
