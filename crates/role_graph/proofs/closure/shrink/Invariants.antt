use Rattle.std.proofs.Common.{◌≤◌, ◌+◌, length}
use Rattle.role_graph.proofs.closure.shrink.Given as goal

abbrev pub decreases-drop : goal.decreases-drop
decreases-drop l = length l.square.cells

abbrev pub invariant-drop : goal.invariant-drop
invariant-drop l = l.most ≤ length l.fn.square.cells + l.fn.square.spare → l.most ≤ length l.square.cells + l.square.spare
