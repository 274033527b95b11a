use Rattle.std.proofs.Common.{◌≡◌, ◌≢◌, ℕ, ◌+◌, ◌<◌, get_or}
use Rattle.ip_match.proofs.parts.cut_at_gap.Given as goal

abbrev pub invariant-loop-at : goal.invariant-loop-at
invariant-loop-at l = (k : ℕ) → k + 1 < l.at → get_or l.text k 0 ≡ 58 → get_or l.text (k + 1) 0 ≢ 58
