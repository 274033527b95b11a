use Rattle.std.proofs.Common.{◌≡◌, length}
use Rattle.role_graph.proofs.ResizeLemmas.{AreCleared}
use Rattle.role_graph.proofs.closure.clear.Given as goal

abbrev pub invariant-loop-node : goal.invariant-loop-node
invariant-loop-node l = record {
  spare : l.square.spare ≡ l.fn.square.spare;
  cleared : AreCleared (length l.fn.square.cells) l.node l.square.cells;
}
