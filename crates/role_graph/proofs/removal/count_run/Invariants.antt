use Rattle.role_graph.proofs.Removals.{IsCounting}
use Rattle.role_graph.proofs.removal.count_run.Given as goal

abbrev pub invariant-loop-at : goal.invariant-loop-at
invariant-loop-at l = IsCounting l.user l.rows l.from l.at l.gone
