use Rattle.std.proofs.Common.{◌≤◌, vec_capacity}
use Rattle.live_pair.proofs.OpeningLemmas.{AreMade}
use Rattle.live_pair.proofs.pair.seats_of.Given as goal

abbrev pub invariant-loop : goal.invariant-loop
invariant-loop g l =
    AreMade l.first.front (g.H.Places.faults l.fn.places) (g.H.Places.faults l.places) l.counter l.all.items × (l.seats ≤ vec_capacity l.all)
