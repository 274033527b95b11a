use Rattle.std.proofs.Common.{arith}
use Rattle.live_meaning.proofs.WorldLemmas.{counted_few, counted_next}
use Rattle.live_meaning.proofs.worlds.World.push.Goals as goal

pub with-counts-requires-clause-versions : goal.with-counts-requires-clause-versions
with-counts-requires-clause-versions c = let few = counted_few c.self.inside.counts c.self.inside.events.items c.self.invariant in omega (arith, few.0)

pub with-counts-requires-clause-notes : goal.with-counts-requires-clause-notes
with-counts-requires-clause-notes c = let few = counted_few c.self.inside.counts c.self.inside.events.items c.self.invariant in omega (arith, few.1)

pub with-counts-requires-clause-seats : goal.with-counts-requires-clause-seats
with-counts-requires-clause-seats c = let few = counted_few c.self.inside.counts c.self.inside.events.items c.self.invariant in omega (arith, few.2)

pub invariant_of-self-2 : goal.invariant_of-self-2
invariant_of-self-2 c = counted_next c.self.inside.counts c.with-counts.result c.self.inside.events.items c.push.new.self.items c.args.event c.self.invariant c.with-counts.ensures c.in_ok-push.ensures.items
