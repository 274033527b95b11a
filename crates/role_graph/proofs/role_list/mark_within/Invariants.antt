use Rattle.std.proofs.Common.{◌<◌, ◌≤◌, ℕ}
use Rattle.role_graph.specs.Helps.Squares.{IsMarked}
use Rattle.role_graph.proofs.PickLemmas.{MarksAlso}
use Rattle.role_graph.proofs.role_list.mark_within.Given as goal

abbrev pub invariant-loop-other : goal.invariant-loop-other
invariant-loop-other l = record {
  done : (a : ℕ) → a < l.other → MarksAlso (λ b. IsMarked l.near b) l.fn.marks l.marks a;
  left : (a : ℕ) → l.other ≤ a → MarksAlso (λ b. ⊥) l.fn.marks l.marks a;
}
