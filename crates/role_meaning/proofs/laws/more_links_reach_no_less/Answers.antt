use Rattle.role_meaning.proofs.Reach.{reaches_more}
use Rattle.role_meaning.proofs.laws.more_links_reach_no_less.Goals as goal

pub returns : goal.returns
returns c = reaches_more
