use Rattle.std.proofs.Common.{◌≡◌, List, length, map}
use Rattle.answer_lines.specs.Printed.{printed_line}
use Rattle.answer_lines.specs.declared.answer.Line.{Line}
use Rattle.live_rounds.proofs.TakingLemmas.{IsTakenTo}
use Rattle.live_rounds.proofs.rounds.take_lines.Given as goal

abbrev pub invariant-loop-lines : goal.invariant-loop-lines
invariant-loop-lines g l = record {
  taken : (whole : List Line) → l.fn.told ≡ map printed_line whole → IsTakenTo g.T.Taker.took g.T.Taker.stopped l.fn.to whole l.left l.to;
}

abbrev pub decreases-loop-lines : goal.decreases-loop-lines
decreases-loop-lines g l = length l.left
