use Rattle.live_pair.proofs.ShownLemmas.{no_longer, one_short}
use Rattle.live_pair.proofs.told.Told.is_one_short_of.Goals as goal

pub returns-then-not-begins : goal.returns-then-not-begins
returns-then-not-begins g c = no_longer c.args.self.now c.args.other.now c.if-not-begins.ensures

pub returns : goal.returns
returns g c =
    rw (← c.self.view_is, ← c.other.view_is) (one_short c.self.inside.seen.log c.other.inside.seen.log (rw (c.self.view_is, c.other.view_is) (c.if-not-begins.ensures)) c.self.inside.entries c.other.inside.entries c.self.invariant.1.entries_are c.other.invariant.1.entries_are)
