use Rattle.std.proofs.Common.{◌<◌}
use Rattle.rbac_query.proofs.distances.last_rising.Given as goal

abbrev pub invariant-loop-at : goal.invariant-loop-at
invariant-loop-at l = l.from < l.at
