use Rattle.std.proofs.Common.{◌≡◌, map, take}
use Rattle.role_meaning.specs.Links.{role_of}
use Rattle.role_graph.proofs.prepared.roles_of.Given as goal

abbrev pub invariant-loop-row : goal.invariant-loop-row
invariant-loop-row l = l.roles.items ≡ map role_of (take l.row-index l.rows)
