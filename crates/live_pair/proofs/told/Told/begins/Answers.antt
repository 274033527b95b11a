use Rattle.std.proofs.Common.{ap, subst, List}
use mathlib.Core.List.{IsPrefix}
use Rattle.live_pair.proofs.FrontLemmas.{by_length}
use Rattle.live_pair.specs.declared.edits.HistoryEvent.{HistoryEvent}
use Rattle.live_pair.proofs.told.Told.begins.Goals as goal

pub returns : goal.returns
returns g c =
    let both = c.learn.new.self.log in
    let this : IsPrefix c.self.inside.seen.log both = subst (λ (l : List HistoryEvent). IsPrefix l both) (ap (λ s. s.log) c.again-both.ensures) c.learn.ensures.2 in
    rw (← c.self.view_is, ← c.other.view_is) (by_length c.self.inside.seen.log c.other.inside.seen.log both this c.learn.ensures.3 c.self.inside.entries c.other.inside.entries c.self.invariant.1.entries_are c.other.invariant.1.entries_are)
