use Rattle.std.proofs.Common.{◌≡◌}
use Rattle.role_graph.specs.Helps.Kept.{linked_of}
use Rattle.role_graph.specs.Helps.Roles.{nodes_of}
use Rattle.role_graph.proofs.Mended.{IsResetting}
use Rattle.role_graph.proofs.repair.reset.Given as goal

abbrev pub invariant-loop-node : goal.invariant-loop-node
invariant-loop-node l = record {
  spare : l.square.spare ≡ l.fn.square.spare;
  rows : IsResetting (linked_of l.links) (nodes_of l.roles) l.fn.square.cells l.hits l.node l.square.cells;
}
