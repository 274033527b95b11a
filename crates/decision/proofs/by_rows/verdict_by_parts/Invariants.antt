use Rattle.std.proofs.Common.{length}
use Rattle.decision.specs.Helps.Asked.{case_in}
use Rattle.decision.proofs.FoldLemmas.{IsFolded}
use Rattle.decision.proofs.by_rows.verdict_by_parts.Given as goal

abbrev pub invariant-loop-number : goal.invariant-loop-number
invariant-loop-number l = record { folded : IsFolded (case_in l.asking) l.initial.candidates l.candidates l.fold }

abbrev pub decreases-loop-number : goal.decreases-loop-number
decreases-loop-number l = length l.candidates
