use Rattle.std.proofs.Common.{length}
use Rattle.live_rounds.proofs.AskedLemmas.{IsAskingUpTo}
use Rattle.live_rounds.specs.Stretches.{items_of}
use Rattle.script_read.specs.ItemLines.{said}
use Rattle.live_rounds.proofs.asks.answer_left.Given as goal

abbrev pub invariant-loop-first : goal.invariant-loop-first
invariant-loop-first g l = IsAskingUpTo l.program l.state (items_of l.part) (g.P.Finder.refusals l.initial.finder) l.skipped l.initial.asked (said l.rest) (g.P.Finder.refusals l.finder) l.left l.asked

abbrev pub decreases-loop-first : goal.decreases-loop-first
decreases-loop-first g l = length (said l.rest)
