use Rattle.std.proofs.Common.{◌-◌, length}
use Rattle.live_rounds.proofs.MergingLemmas.{IsFilled}
use Rattle.live_rounds.proofs.round_lines.RoundLines.fill.Given as goal

abbrev pub invariant-loop-self : goal.invariant-loop-self
invariant-loop-self l = IsFilled l.initial.self l.self l.lines

abbrev pub decreases-loop-self : goal.decreases-loop-self
decreases-loop-self l = 1024 - length l.lines.shown.items
