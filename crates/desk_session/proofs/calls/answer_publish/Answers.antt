use Rattle.std.proofs.Common.{ap, sym, ◌∙◌}
use Rattle.policy_desk.specs.Desks.{Work}
use Rattle.desk_session.proofs.LogLemmas.{on_err_of}
use Rattle.desk_session.proofs.PublishLemmas.{publish_step, publish_stopped}
use Rattle.desk_session.proofs.calls.answer_publish.Goals as goal

pub returns-clause-step : goal.returns-clause-step
returns-clause-step g c =
    let work = g.E.Editor.work in
    let is = c.in_ok-version.ensures.published in
    publish_step (work c.args.editor.now) (work c.publish.new.self) is.state.shapes (ap (λ (d : Work). d.kept) is.others) c.in_ok-version.version c.in_ok-version.ensures.version is.state.more
    is.state.stands (is.start ∙ sym (ap (λ (d : Work). d.floor) is.others)) (ap (λ (d : Work). d.pending) is.others) (ap (λ (d : Work). d.floor) is.others)

pub returns-in_err-version-clause-stopped : goal.returns-in_err-version-clause-stopped
returns-in_err-version-clause-stopped g c =
    let work = g.E.Editor.work in
    let is = c.in_err-version.ensures.refused in
    on_err_of c.from_residual.result (publish_stopped (work c.args.editor.now) (work c.publish.new.self) is.state.shapes (ap (λ (d : Work). d.kept) is.others) is.state.stands is.state.start (ap (λ (d : Work). d.pending) is.others))
