use Rattle.live_pair.proofs.ShownLemmas.{one_longer, publish_short}
use Rattle.live_pair.proofs.told.Told.is_published_in.Goals as goal

pub returns-then-not-is_one_short_of : goal.returns-then-not-is_one_short_of
returns-then-not-is_one_short_of g c = λ is. c.if-not-is_one_short_of.ensures (one_longer c.args.self.now c.args.other.now is)

pub returns : goal.returns
returns g c =
    rw (← c.self.view_is, ← c.other.view_is) (publish_short g.J.Naming.first c.self.inside.seen.log c.other.inside.seen.log (rw (c.self.view_is, c.other.view_is) (c.if-not-is_one_short_of.ensures)) c.self.inside.parts c.other.inside.parts c.self.invariant.1.parts_are c.other.invariant.1.parts_are)
