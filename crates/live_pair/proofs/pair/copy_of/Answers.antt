use Rattle.std.proofs.Common.{◌≡◌, List, ap, subst, sym, ◌∙◌}
use Rattle.live_pair.proofs.SideLemmas.{up_to_opened}
use Rattle.policy_state.proofs.CallerLemmas.{version_stands}
use Rattle.policy_state.specs.States.{State, StandsFor}
use Rattle.live_pair.specs.Helps.Sides.{is_published}
use Rattle.live_pair.specs.declared.edits.HistoryEvent.{HistoryEvent}
use Rattle.live_pair.proofs.pair.copy_of.Goals as goal

pub new-requires-clause-up_to : goal.new-requires-clause-up_to
new-requires-clause-up_to g c =
    let first = g.J.Naming.first in
    let opening = g.J.Naming.opening in
    let copy = c.in_ok-state.state in
    let of : StandsFor c.state.result.now opening first = subst (λ (s : State). StandsFor s opening first) (sym c.state.ensures.state) c.requires.stands in
    let stands : StandsFor copy opening first = c.in_ok-state.ensures.stands opening first of in
    let shapes : c.state.result.now.shapes ≡ g.J.Naming.shapes = ap (λ (s : State). s.shapes) c.state.ensures.state ∙ c.requires.shapes in
    up_to_opened g.J.Naming.shapes opening first c.again.result c.make.new.state (c.again.ensures ∙ c.requires.none) (c.make.ensures.shapes ∙ c.in_ok-state.ensures.shapes ∙ shapes) (c.in_ok-make.ensures.stands opening first stands)
    (c.in_ok-make.ensures.start ∙ c.version-start.ensures.value ∙ version_stands copy.log first stands.log)

pub new-requires-clause-published : goal.new-requires-clause-published
new-requires-clause-published g c = sym (ap (λ (l : List HistoryEvent). is_published l) (c.again.ensures ∙ c.requires.none))
