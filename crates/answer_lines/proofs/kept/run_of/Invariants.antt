use Rattle.std.proofs.Common.{◌≡◌, ◌+◌, ◌-◌, ◌≤◌, ◌^◌, length, take}
use Rattle.answer_lines.specs.Helps.Marked.{IsRun, size_of}
use Rattle.answer_lines.proofs.kept.run_of.Given as goal

abbrev pub invariant-loop-mark : goal.invariant-loop-mark
invariant-loop-mark l = IsRun l.number l.count l.marks × (l.size ≡ size_of (take l.count l.marks)) × (l.count ≤ l.most) × (l.number + l.count ≤ 2 ^ 32)

abbrev pub decreases-loop-mark : goal.decreases-loop-mark
decreases-loop-mark l = length l.marks - l.count
