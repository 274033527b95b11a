use Rattle.std.proofs.Common.{◌≤◌, ℕ, refl, subst, sym}
use Rattle.live_pair.proofs.OpeningLemmas.{all_new, made_given}
use Rattle.live_pair.proofs.pair.seats_of.Goals as goal

pub returns-clause-seats : goal.returns-clause-seats
returns-clause-seats g c = all_new c.args.first.front c.args.first c.new-2.result c.loop.all.items c.push_reserved-2.new.self.items c.new-2.ensures refl c.requires.new c.push_reserved-2.ensures.items c.loop.invariant.0.new

pub loop-preserved : goal.loop-preserved
loop-preserved g c = (
  made_given c.args.first.front (g.H.Places.faults c.args.places.now) (g.H.Places.faults c.loop.places) (g.H.Places.faults c.more.new.self) c.loop.counter c.in-Ok.way c.new.result c.loop.all.items
      c.push_reserved.new.self.items c.loop.invariant.0 c.in-Ok.ensures.counted c.new.ensures c.in-Ok.ensures.more c.push_reserved.ensures.items,
  subst (λ (n : ℕ). c.args.seats ≤ n) (sym c.push_reserved.ensures.capacity) c.loop.invariant.1,
)
