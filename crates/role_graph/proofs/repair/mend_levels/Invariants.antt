use Rattle.std.proofs.Common.{◌≡◌, ◌+◌, ℕ, List}
use Rattle.role_graph.specs.Helps.Mended.{AreTold, IsMending}
use Rattle.role_graph.specs.Helps.Walks.{Linked}
use Rattle.role_graph.proofs.repair.mend_levels.Given as goal

abbrev pub invariant-loop-level : goal.invariant-loop-level
invariant-loop-level l = record {
  spare : l.square.spare ≡ l.fn.square.spare;
  mends : (linked : Linked) (names old : List (List ℕ)) → IsMending linked names old l.hits l.fn.square.cells → IsMending linked names old l.hits l.square.cells;
  told : (linked : Linked) (names old : List (List ℕ)) (most : ℕ) → IsMending linked names old l.hits l.fn.square.cells → AreTold linked names old most l.fn.square.cells → AreTold linked names old (most + l._level) l.square.cells;
}
