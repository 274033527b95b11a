use Rattle.std.proofs.Common.{◌≡◌, Bool, true, [], List, sym, ap, subst, ◌∙◌}
use Rattle.live_pair.proofs.SideLemmas.{stands_whole}
use Rattle.policy_state.proofs.CallerLemmas.{version_stands}
use Rattle.live_pair.specs.Helps.Sides.{is_published, start_by}
use Rattle.live_pair.specs.Seats.{Way, start_of}
use Rattle.live_pair.specs.Story.{edits_in, publishes, unpublished}
use Rattle.live_pair.specs.declared.edits.HistoryEvent.{HistoryEvent}
use Rattle.policy_state.specs.States.{StandsFor}
use Rattle.policy_table.specs.declared.change.Change.{Change}
use Rattle.live_pair.proofs.entrance.Inside.state.Goals as goal

pub returns-clause-stands : goal.returns-clause-stands
returns-clause-stands g c =
    let first = g.J.Naming.first in
    let opening = g.J.Naming.opening in
    let log : List HistoryEvent = c.get.result.now in
    let none : unpublished first log ≡ [] = subst (λ (l : List HistoryEvent). unpublished first l ≡ []) (sym c.get.ensures) c.self.invariant.1 in
    let front : publishes first log ≡ c.args.self.now.front = ap (λ (l : List HistoryEvent). publishes first l) c.get.ensures ∙ sym c.self.invariant.0 ∙ ap (λ (w : Way). w.front) c.self.view_is in
    subst (λ (f : List (List (List Change))). StandsFor c.state.result.now opening (edits_in f)) front (stands_whole opening first log c.state.result.now none c.state.ensures.stands)

pub returns-clause-start : goal.returns-clause-start
returns-clause-start g c =
    let first = g.J.Naming.first in
    let log : List HistoryEvent = c.get.result.now in
    let whole : is_published log ≡ true = ap (λ (l : List HistoryEvent). is_published l) c.get.ensures ∙ c.self.invariant.2 in
    let front : publishes first log ≡ c.args.self.now.front = ap (λ (l : List HistoryEvent). publishes first l) c.get.ensures ∙ sym c.self.invariant.0 ∙ ap (λ (w : Way). w.front) c.self.view_is in
    c.state.ensures.start ∙ ap (λ (b : Bool). start_by b (publishes first log)) whole ∙ ap (λ (f : List (List (List Change))). start_of f) front

pub returns-clause-version : goal.returns-clause-version
returns-clause-version g c = version_stands c.state.result.now.log (edits_in c.args.self.now.front) (returns-clause-stands g c).log
