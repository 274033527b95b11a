use Rattle.std.proofs.Common.{length}
use Rattle.live_rounds.proofs.ServedLemmas.{IsServingUpTo}
use Rattle.live_rounds.specs.Stretches.{items_of}
use Rattle.script_read.specs.ItemLines.{said}
use Rattle.live_rounds.proofs.seat_answers.answer_part.Given as goal

abbrev pub invariant-loop-first : goal.invariant-loop-first
invariant-loop-first g l = IsServingUpTo l.program g.J.Naming.shapes g.J.Naming.opening (items_of l.part) (g.P.Finder.refusals l.initial.finder) l.initial.seat (said l.left) (g.P.Finder.refusals l.finder) l.seat l.replies

abbrev pub decreases-loop-first : goal.decreases-loop-first
decreases-loop-first g l = length (said l.left)
