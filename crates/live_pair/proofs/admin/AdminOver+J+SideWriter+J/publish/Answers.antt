use Rattle.std.proofs.Common.{List, ap, subst, sym, ◌∙◌}
use Rattle.live_pair.proofs.LineLemmas.{admin_published}
use Rattle.live_pair.specs.Admins.{AdminSeen}
use Rattle.live_pair.specs.Seats.{version_of}
use Rattle.live_pair.specs.Story.{edits_in}
use Rattle.policy_desk.proofs.CallerLemmas.{published_from}
use Rattle.policy_desk.specs.Desks.{floor_after}
use Rattle.policy_desk.specs.Transitions.{IsPublished}
use Rattle.policy_state.proofs.CallerLemmas.{version_stands}
use Rattle.policy_table.specs.declared.change.Change.{Change}
use Rattle.live_pair.proofs.admin.AdminOver+J+SideWriter+J.publish.Goals as goal

pub invariant_of-self-2 : goal.invariant_of-self-2
invariant_of-self-2 g c =
    let i = c.self.inside in
    admin_published g.J.Naming.shapes g.J.Naming.opening g.J.Naming.first i.line c.hand_over.new.self c.settle.new.self i.copies.desk.shown.value c.show.new.copies.desk.shown.value
    i.front c.in-Some.front c.again.result i.desk c.begin_publish.new.self c.end_publish.new.self
    c.self.invariant c.begin_publish.ensures.begun c.end_publish.ensures.published
    c.hand_over.ensures.same c.in_ok-hand_over.ensures.all c.in-Some.ensures.front c.in-Some.ensures.line c.in-Some.ensures.none_left c.in-Some.ensures.out c.again.ensures.same

pub returns-clause-version : goal.returns-clause-version
returns-clause-version g c =
    let i = c.self.inside in
    let kept =
    admin_published g.J.Naming.shapes g.J.Naming.opening g.J.Naming.first i.line c.hand_over.new.self c.settle.new.self i.copies.desk.shown.value c.show.new.copies.desk.shown.value
    i.front c.in-Some.front c.again.result i.desk c.begin_publish.new.self c.end_publish.new.self
    c.self.invariant c.begin_publish.ensures.begun c.end_publish.ensures.published
    c.hand_over.ensures.same c.in_ok-hand_over.ensures.all c.in-Some.ensures.front c.in-Some.ensures.line c.in-Some.ensures.none_left c.in-Some.ensures.out c.again.ensures.same in
    ap (λ (l : List (List (List Change))). version_of l) (sym c.again.ensures.same) ∙ sym (version_stands c.end_publish.new.self.state.log (edits_in c.again.result) kept.stands.log)

pub returns-clause-published : goal.returns-clause-published
returns-clause-published g c =
    subst (λ (a : AdminSeen). IsPublished (floor_after a.desk) a.desk c.end_publish.new.self) c.self.view_is
    (published_from c.self.inside.desk c.begin_publish.new.self c.end_publish.new.self c.begin_publish.ensures.begun c.end_publish.ensures.published)
