use Rattle.std.proofs.Common.{Err, Ok, refl, sym}
use Rattle.std.proofs.lemmas.Result.{IfOk-weaker}
use Rattle.desk_session.proofs.QueryLemmas.{has_step}
use Rattle.desk_session.proofs.queries.answer_has.Goals as goal

pub returns-in-Ok : goal.returns-in-Ok
returns-in-Ok c = has_step c.args.desk.now c.state-state.result.now c.state-state.ensures.state c.version-version.result c.version-version.ensures.value
    c.args.table c.args.rule.now (Ok c.in-Ok.stands) (sym c.in-Ok.ensures.answer) _ refl

pub returns-in-Err : goal.returns-in-Err
returns-in-Err c = IfOk-weaker c.refusal_answer.result _ _ (λ reply told. has_step c.args.desk.now c.state-state.result.now c.state-state.ensures.state c.version-version.result c.version-version.ensures.value
    c.args.table c.args.rule.now (Err c.in-Err.refused) (sym c.in-Err.ensures.answer) reply told.0) c.refusal_answer.ensures
