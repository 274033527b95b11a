use Rattle.std.proofs.Common.{◌≡◌, ◌-◌, ◌≤◌, ℕ, List}
use Rattle.role_graph.specs.Helps.Mended.{AreTold, IsMending}
use Rattle.role_graph.specs.Helps.Walks.{Linked}
use Rattle.role_graph.proofs.repair.mend.Given as goal

abbrev pub decreases-more : goal.decreases-more
decreases-more l = 254 - l.level

abbrev pub invariant-more : goal.invariant-more
invariant-more l = record {
  past : 1 ≤ l.level;
  spare : l.square.spare ≡ l.fn.square.spare;
  mends : (linked : Linked) (names old : List (List ℕ)) → IsMending linked names old l.hits l.fn.square.cells → IsMending linked names old l.hits l.square.cells × AreTold linked names old l.level l.square.cells;
}
