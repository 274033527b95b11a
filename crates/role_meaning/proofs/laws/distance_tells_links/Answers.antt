use Rattle.role_meaning.proofs.Reach.{far_tells}
use Rattle.role_meaning.proofs.laws.distance_tells_links.Goals as goal

pub returns : goal.returns
returns c = far_tells
