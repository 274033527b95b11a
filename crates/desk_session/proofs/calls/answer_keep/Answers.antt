use Rattle.std.proofs.Common.{ap}
use Rattle.policy_desk.specs.Desks.{Work}
use Rattle.desk_session.proofs.PublishLemmas.{keep_step}
use Rattle.desk_session.proofs.calls.answer_keep.Goals as goal

pub returns-clause-step : goal.returns-clause-step
returns-clause-step g c =
    let work = g.E.Editor.work in
    let is = c.keep.ensures.kept in
    keep_step (work c.args.editor.now) (work c.keep.new.self) c.args.count (ap (λ (d : Work). d.kept) is) (ap (λ (d : Work). d.state) is) (ap (λ (d : Work). d.pending) is) (ap (λ (d : Work). d.floor) is)
