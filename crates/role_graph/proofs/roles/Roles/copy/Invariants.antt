use Rattle.std.proofs.Common.{◌≡◌, take}
use Rattle.role_graph.proofs.roles.Roles.copy.Given as goal

abbrev pub invariant-loop-at : goal.invariant-loop-at
invariant-loop-at l = l.counts.entries ≡ take l.at l.self.entries
