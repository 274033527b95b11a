use Rattle.std.proofs.Common.{ap, refl, subst}
use Rattle.std.proofs.lemmas.Result.{IfOk-weaker}
use Rattle.policy_desk.specs.Answers.{desk_answer}
use Rattle.policy_desk.specs.Desks.{IsDesk, Work}
use Rattle.desk_session.proofs.LogLemmas.{on_err_of}
use Rattle.desk_session.proofs.PublishLemmas.{call_stopped, done_step, refused_step, told_is}
use Rattle.desk_session.proofs.calls.answer_call.Goals as goal

pub returns-in-Ok-clause-step : goal.returns-in-Ok-clause-step
returns-in-Ok-clause-step g c =
    let work = g.E.Editor.work in
    let is_desk : IsDesk (work c.args.editor.now) = subst IsDesk c.desk.ensures.desk c.holds.ensures.desk in
    let done = c.in-Ok.ensures.done in
    done_step c.args.call.now (work c.args.editor.now) (work c.call.new.self) is_desk (ap (λ (d : Work). d.state) done) (ap (λ (d : Work). d.kept) done) (ap (λ (d : Work). d.floor) done)
    (desk_answer (work c.args.editor.now) c.args.call.now) refl (ap (λ (d : Work). d.pending) done) c.in-Ok.changed c.in-Ok.ensures.answered

pub returns-in-Err-clause-step : goal.returns-in-Err-clause-step
returns-in-Err-clause-step g c =
    let work = g.E.Editor.work in
    let is_desk : IsDesk (work c.args.editor.now) = subst IsDesk c.desk.ensures.desk c.holds.ensures.desk in
    let same = c.in-Err.ensures.refused in
    IfOk-weaker c.told.result _ _ (λ reply told. refused_step c.args.call.now (work c.args.editor.now) (work c.call.new.self) is_desk (ap (λ (d : Work). d.state) same) (ap (λ (d : Work). d.kept) same) (ap (λ (d : Work). d.floor) same)
    c.in-Err.refused (told_is _ c.in-Err.refused c.in-Err.ensures.answered told.1) (ap (λ (d : Work). d.pending) same) reply told.0) c.told.ensures

pub returns-in-Err-clause-stopped : goal.returns-in-Err-clause-stopped
returns-in-Err-clause-stopped g c =
    let work = g.E.Editor.work in
    let same = c.in-Err.ensures.refused in
    on_err_of c.told.result (call_stopped (work c.args.editor.now) (work c.call.new.self) (ap (λ (d : Work). d.state) same) (ap (λ (d : Work). d.pending) same) (ap (λ (d : Work). d.kept) same))
