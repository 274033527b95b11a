use Rattle.std.proofs.Common.{length, ◌-◌}
use Rattle.outside.proofs.PieceLemmas.{IsPushed}
use Rattle.outside.proofs.sink.push_all.Given as goal

abbrev pub invariant-loop-at : goal.invariant-loop-at
invariant-loop-at g l = IsPushed (g.K.Sink.taken l.initial.sink) (g.K.Sink.taken l.sink) l.bytes l.at (g.K.Sink.faults l.initial.sink) (g.K.Sink.faults l.sink)

abbrev pub decreases-loop-at : goal.decreases-loop-at
decreases-loop-at g l = length l.bytes - l.at
