use Rattle.role_graph.proofs.CountLemmas.{reaches_as_often}
use Rattle.role_graph.proofs.laws.rows_as_often_reach_the_same.Goals as goal

pub returns : goal.returns
returns c = reaches_as_often
