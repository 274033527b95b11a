use Rattle.std.proofs.Common.{◌≡◌, ℕ, ◌+◌, ◌<◌, ◌≤◌, get_or}
use Rattle.row_order.proofs.counts.lower.Given as goal

abbrev pub invariant-loop-k : goal.invariant-loop-k
invariant-loop-k l = record {
  lowered : (j : ℕ) → l.from ≤ j → j < l.k → get_or l.counts j 0 + 1 ≡ get_or l.fn.counts j 0;
  front : (j : ℕ) → j < l.from → get_or l.counts j 0 ≡ get_or l.fn.counts j 0;
  back : (j : ℕ) → l.k ≤ j → get_or l.counts j 0 ≡ get_or l.fn.counts j 0;
}
