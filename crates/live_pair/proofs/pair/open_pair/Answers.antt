use Rattle.std.proofs.Common.{◌≡◌, ◌∙◌, ◌∷◌, [], List, All, ap, subst}
use Rattle.live_pair.specs.Seats.{IsNew, Way}
use Rattle.live_pair.specs.Story.{publishes}
use Rattle.live_pair.specs.declared.edits.HistoryEvent.{HistoryEvent}
use Rattle.policy_table.specs.declared.change.Change.{Change}
use Rattle.live_pair.proofs.pair.open_pair.Goals as goal

pub returns-clause-seats : goal.returns-clause-seats
returns-clause-seats g c =
    let none : c.again.result ≡ [] = c.again.ensures ∙ c.named-head.ensures in
    let front : c.new-front.result ≡ g.J.Naming.first ∷ [] = c.new-front.ensures ∙ ap (λ (l : List HistoryEvent). publishes g.J.Naming.first l) none in
    let known : c.new-first.result.front ≡ g.J.Naming.first ∷ [] = ap (λ (w : Way). w.front) c.new-first.ensures ∙ c.again-2.ensures.same ∙ front in
    subst (λ (f : List (List (List Change))). All (IsNew f) c.seats_of-all.result.items) known c.seats_of-all.ensures.seats
