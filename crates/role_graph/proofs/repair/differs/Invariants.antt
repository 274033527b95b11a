use Rattle.std.proofs.Common.{◌≡◌, ◌<◌, ℕ, get_or}
use Rattle.dist_rows.specs.Squares.{cell_of}
use Rattle.role_graph.proofs.repair.differs.Given as goal

abbrev pub invariant-loop-other : goal.invariant-loop-other
invariant-loop-other l = (b : ℕ) → b < l.other → cell_of l.square.cells l.node b ≡ get_or l.before b 0
