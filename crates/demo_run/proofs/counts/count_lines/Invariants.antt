use Rattle.std.proofs.Common.{◌≡◌, take}
use Rattle.demo_run.specs.Summary.{counted_behind}
use Rattle.demo_run.proofs.counts.count_lines.Given as goal

abbrev pub invariant-loop-line : goal.invariant-loop-line
invariant-loop-line l = l.counts ≡ counted_behind l.initial.tally.counts (take l.line-index l.lines)
