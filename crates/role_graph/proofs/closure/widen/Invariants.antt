use Rattle.std.proofs.Common.{◌≡◌, ◌≤◌, ◌+◌, ◌-◌, length}
use Rattle.role_graph.specs.Helps.Squares.{Grows}
use Rattle.role_graph.proofs.closure.widen.Given as goal

abbrev pub decreases-add : goal.decreases-add
decreases-add l = l.size - length l.square.cells

abbrev pub invariant-add : goal.invariant-add
invariant-add l = record {
  few : length l.square.cells ≤ l.size;
  room : l.size ≤ length l.square.cells + l.square.spare;
  grows : Grows (λ a b. a ≡ b) l.fn.square.cells l.square.cells;
}
