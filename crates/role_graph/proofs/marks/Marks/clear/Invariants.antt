use Rattle.std.proofs.Common.{◌≡◌, ◌<◌, ◌*◌, ℕ, length}
use Rattle.role_graph.specs.Helps.Marks.{IsSet}
use Rattle.role_graph.proofs.marks.Marks.clear.Given as goal

abbrev pub invariant-loop-word : goal.invariant-loop-word
invariant-loop-word l = record {
  long : length l.self-inside.words ≡ 3125;
  none : (at : ℕ) → at < 64 * l.word → IsSet l.self-inside.words at → ⊥;
}
