use Rattle.role_graph.proofs.CountLemmas.{stands_from_times, times_from_stands}
use Rattle.role_graph.proofs.laws.standing_rows_are_counted.Goals as goal

pub returns : goal.returns
returns c = λ row rows. (times_from_stands row rows, stands_from_times row rows)
