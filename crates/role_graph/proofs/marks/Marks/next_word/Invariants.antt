use Rattle.std.proofs.Common.{◌≤◌, ◌<◌, ◌*◌, ℕ}
use Rattle.role_graph.specs.Helps.Marks.{IsSet}
use Rattle.role_graph.proofs.marks.Marks.next_word.Given as goal

abbrev pub invariant-loop-word : goal.invariant-loop-word
invariant-loop-word l = record {
  low : l.from ≤ l.word;
  none : (other : ℕ) → 64 * l.from ≤ other → other < 64 * l.word → IsSet l.self other → ⊥;
}
