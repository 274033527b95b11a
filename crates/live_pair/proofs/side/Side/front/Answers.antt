use Rattle.std.proofs.Common.{◌≡◌, [], List, true, ap, subst, sym, ◌∙◌}
use Rattle.live_pair.proofs.StartLemmas.{none_waits}
use Rattle.live_pair.specs.Helps.Sides.{is_published}
use Rattle.live_pair.specs.Story.{unpublished}
use Rattle.live_pair.specs.declared.edits.HistoryEvent.{HistoryEvent}
use Rattle.live_pair.proofs.side.Side.front.Goals as goal

pub new-requires : goal.new-requires
new-requires g c = ap (λ (l : List HistoryEvent). unpublished g.J.Naming.first l) c.again.ensures ∙ none_waits g.J.Naming.first c.self.inside.told (sym c.self.invariant.1 ∙ c.if-not-self.false)

pub returns-clause-whole : goal.returns-clause-whole
returns-clause-whole g c = subst (λ (l : List HistoryEvent). unpublished g.J.Naming.first l ≡ []) c.self.view_is (none_waits g.J.Naming.first c.self.inside.told (sym c.self.invariant.1 ∙ c.if-not-self.false))

pub returns-clause-published : goal.returns-clause-published
returns-clause-published g c = subst (λ (l : List HistoryEvent). is_published l ≡ true) c.self.view_is (sym c.self.invariant.1 ∙ c.if-not-self.false)
