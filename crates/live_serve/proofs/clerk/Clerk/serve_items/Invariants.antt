use Rattle.std.proofs.Common.{map, take}
use Rattle.script_read.specs.Said.{seen}
use Rattle.live_serve.specs.Sayings.{said}
use Rattle.live_serve.specs.Standings.{standing}
use Rattle.live_serve.proofs.ServeLemmas.{AreDone}
use Rattle.live_serve.proofs.clerk.Clerk.serve_items.Given as goal

abbrev pub invariant-loop-item : goal.invariant-loop-item
invariant-loop-item g l = AreDone l.program (g.P.Finder.refusals l.initial.finder) (g.P.Finder.refusals l.finder) (standing l.initial.self) (standing l.self) (g.K.Sink.taken l.initial.out) (g.K.Sink.taken l.out) (said (map seen (take l.item-index l.items))) (g.K.Sink.faults l.initial.out) (g.K.Sink.faults l.out)
