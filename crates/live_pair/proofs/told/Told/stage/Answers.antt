use Rattle.std.proofs.Common.{◌≡◌, ◌+◌, ◌≤◌, ◌++◌, ◌∷◌, [], List, length, refl, sym, ap, subst, ◌∙◌, arith}
use Rattle.live_pair.proofs.SideLemmas.{given_staged}
use Rattle.live_pair.proofs.StoryLemmas.{counted_all, counted_staged}
use Rattle.live_pair.specs.Helps.Sides.{AreCounted, history}
use Rattle.live_pair.specs.declared.edits.HistoryEvent.{HistoryEvent}
use Rattle.live_pair.specs.declared.edits.HistoryEvent.TheVariants.{Staged}
use Rattle.edit_calls.specs.Admitted.{AreAdmitted}
use Rattle.policy_table.specs.Changes.{replay}
use Rattle.policy_table.specs.declared.change.Change.{Change}
use Rattle.version_log.specs.Log.{most_versions}
use Rattle.live_pair.proofs.told.Told.stage.Goals as goal

pub overflow_add-self-2 : goal.overflow_add-self-2
overflow_add-self-2 g c =
    let i = c.self.inside in
    let first = g.J.Naming.first in
    let few : length (history first i.seen.log) + length c.args.edits.now ≤ most_versions = subst (λ (l : List HistoryEvent). length (history first l) + length c.args.edits.now ≤ most_versions) (sym c.self.view_is) c.requires.few in
    let all : i.version + i.waiting ≡ length (history first i.seen.log) = counted_all first i.seen.log i.entries i.parts i.waiting i.version c.self.invariant.1 in
    omega (arith, few, all, c.len.ensures)

pub invariant_of-self : goal.invariant_of-self
invariant_of-self g c =
    let i = c.self.inside in
    let first = g.J.Naming.first in
    let es : List (List Change) = c.args.edits.now in
    let few : length (history first i.seen.log) + length es ≤ most_versions = subst (λ (l : List HistoryEvent). length (history first l) + length es ≤ most_versions) (sym c.self.view_is) c.requires.few in
    let admitted : AreAdmitted g.J.Naming.shapes (replay (history first i.seen.log) g.J.Naming.opening) es
    = subst (λ (l : List HistoryEvent). AreAdmitted g.J.Naming.shapes (replay (history first l) g.J.Naming.opening) es) (sym c.self.view_is) c.requires.admitted in
    let e = c.if-not-append_event.ensures in
    let added : c.append_event.new.seen.log ≡ i.seen.log ++ Staged es ∷ [] = ◌∙◌ {A = List HistoryEvent} (e.added refl) (ap (λ s. s.log ++ Staged es ∷ []) c.again-seen.ensures) in
    let counted : AreCounted first (i.seen.log ++ Staged es ∷ []) (i.entries + 1) i.parts (i.waiting + c.len.result) i.version
    = rw c.len.ensures (counted_staged first i.seen.log es i.entries i.parts i.waiting i.version c.self.invariant.1) in (
      e.pair,
      subst (λ (l : List HistoryEvent). AreCounted first l (i.entries + 1) i.parts (i.waiting + c.len.result) i.version) (sym added) counted,
      given_staged g.J.Naming.shapes g.J.Naming.opening first i.seen.log c.append_event.new.seen.log es added c.self.invariant.2 admitted few,
    )
