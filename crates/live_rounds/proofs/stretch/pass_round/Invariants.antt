use Rattle.std.proofs.Common.{length}
use Rattle.live_rounds.proofs.PassingLemmas.{IsPassing}
use Rattle.script_read.specs.ItemLines.{said}
use Rattle.live_rounds.proofs.stretch.pass_round.Given as goal

abbrev pub invariant-loop-first : goal.invariant-loop-first
invariant-loop-first l = IsPassing l.count l.requests (said l.fn.rest) (said l.rest)

abbrev pub decreases-loop-first : goal.decreases-loop-first
decreases-loop-first l = length (said l.rest)
