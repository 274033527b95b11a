use Rattle.role_meaning.proofs.Reach.{reaches_last, reaches_on}
use Rattle.role_meaning.proofs.laws.links_go_on.Goals as goal

pub returns-clause-more : goal.returns-clause-more
returns-clause-more c = reaches_on

pub returns-clause-last : goal.returns-clause-last
returns-clause-last c = reaches_last
