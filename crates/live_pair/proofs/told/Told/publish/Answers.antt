use Rattle.std.proofs.Common.{refl, subst, sym, ◌∙◌, ◌+◌, ap, List, [], ◌∷◌, ◌++◌, ◌≡◌, length, arith}
use Rattle.live_pair.proofs.SideLemmas.{given_published}
use Rattle.live_pair.proofs.StoryLemmas.{counted_all, counted_published}
use Rattle.live_pair.specs.Helps.Sides.{AreCounted, history}
use Rattle.live_pair.specs.declared.edits.HistoryEvent.{HistoryEvent}
use Rattle.live_pair.specs.declared.edits.HistoryEvent.TheVariants.{Publish}
use Rattle.live_pair.proofs.told.Told.publish.Goals as goal

pub invariant_of-self : goal.invariant_of-self
invariant_of-self g c =
    let i = c.self.inside in
    let first = g.J.Naming.first in
    let e = c.if-not-append_event.ensures in
    let added : c.append_event.new.seen.log ≡ i.seen.log ++ Publish ∷ [] = ◌∙◌ {A = List HistoryEvent} (e.added refl) (ap (λ s. s.log ++ Publish ∷ []) c.again-seen.ensures) in (
      e.pair,
      subst (λ (l : List HistoryEvent). AreCounted first l (i.entries + 1) (i.parts + 1) 0 (i.version + i.waiting)) (sym added) (counted_published first i.seen.log i.entries i.parts i.waiting i.version c.self.invariant.1),
      given_published g.J.Naming.shapes g.J.Naming.opening first i.seen.log c.append_event.new.seen.log added c.self.invariant.2,
    )

pub overflow_add-self-3 : goal.overflow_add-self-3
overflow_add-self-3 g c =
    let i = c.self.inside in
    let all : i.version + i.waiting ≡ length (history g.J.Naming.first i.seen.log) = counted_all g.J.Naming.first i.seen.log i.entries i.parts i.waiting i.version c.self.invariant.1 in
    omega (arith, all, c.self.invariant.2.few)
