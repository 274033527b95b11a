use Rattle.std.proofs.Common.{drop, length, ◌-◌}
use Rattle.live_serve.specs.Standings.{standing}
use Rattle.live_serve.proofs.PieceLemmas.{IsAmid}
use Rattle.live_serve.proofs.piece.serve_piece.Given as goal

abbrev pub invariant-loop-at : goal.invariant-loop-at
invariant-loop-at g l = IsAmid l.json l.program (g.P.Finder.refusals l.initial.finder) (g.P.Finder.refusals l.finder) (standing l.initial.clerk) (standing l.clerk) l.initial.sections l.sections l.piece (drop l.at l.piece) (g.K.Sink.taken l.initial.out) (g.K.Sink.taken l.out)
    (g.K.Sink.faults l.initial.out) (g.K.Sink.faults l.out)

abbrev pub decreases-loop-at : goal.decreases-loop-at
decreases-loop-at g l = length l.piece - l.at
