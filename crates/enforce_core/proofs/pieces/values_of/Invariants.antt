use Rattle.std.proofs.Common.{◌+◌, ◌≤◌, length}
use Rattle.enforce_core.proofs.PieceLemmas.{IsCut}
use Rattle.enforce_core.proofs.pieces.values_of.Given as goal

abbrev pub invariant-loop-place : goal.invariant-loop-place
invariant-loop-place l = record { cut : IsCut l.bytes l.ends l.rest l.number l.from l.values.items; few : l.number + length l.rest ≤ 34 }

abbrev pub decreases-loop-place : goal.decreases-loop-place
decreases-loop-place l = length l.rest
