use Rattle.std.proofs.lemmas.Result.{IfOk-weaker}
use Rattle.desk_session.proofs.QueryLemmas.{not_recorded_step, recorded_step}
use Rattle.desk_session.proofs.queries.answer_history.Goals as goal

pub returns-in_ok-edit-in-Ok : goal.returns-in_ok-edit-in-Ok
returns-in_ok-edit-in-Ok c = recorded_step c.args.desk.now c.state-state.result.now c.state-state.ensures.state c.version-version.result c.version-version.ensures.value
    c.args.number c.in-Ok.edit.now c.in_ok-edit-in-Ok.edit c.in-Ok.ensures.answer c.in_ok-edit-in-Ok.ensures

pub returns-in-Err : goal.returns-in-Err
returns-in-Err c = IfOk-weaker c.refusal_answer.result _ _ (λ reply told. not_recorded_step c.args.desk.now c.state-state.result.now c.state-state.ensures.state c.version-version.result c.version-version.ensures.value
    c.args.number c.in-Err.refused c.in-Err.ensures.answer reply told.0) c.refusal_answer.ensures
