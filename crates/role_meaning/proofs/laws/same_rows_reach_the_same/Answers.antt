use Rattle.role_meaning.proofs.Reach.{reaches_among}
use Rattle.role_meaning.proofs.laws.same_rows_reach_the_same.Goals as goal

pub returns : goal.returns
returns c = reaches_among
