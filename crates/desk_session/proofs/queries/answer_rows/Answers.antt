use Rattle.std.proofs.Common.{Err, Ok, refl}
use Rattle.std.proofs.lemmas.Result.{IfOk-weaker}
use Rattle.desk_session.proofs.QueryLemmas.{refused_is, rows_step}
use Rattle.desk_session.proofs.queries.answer_rows.Goals as goal

pub returns-in-Ok : goal.returns-in-Ok
returns-in-Ok c = rows_step c.args.desk.now c.state-state.result.now c.state-state.ensures.state c.version-version.result c.version-version.ensures.value
    c.args.table c.args.at c.args.values.now (Ok c.in-Ok.rules) c.in-Ok.ensures.answer _ refl

pub returns-in-Err : goal.returns-in-Err
returns-in-Err c = IfOk-weaker c.refusal_answer.result _ _ (λ reply told. rows_step c.args.desk.now c.state-state.result.now c.state-state.ensures.state c.version-version.result c.version-version.ensures.value
    c.args.table c.args.at c.args.values.now (Err c.in-Err.refused) (refused_is _ c.in-Err.refused c.in-Err.ensures.answer told.1) reply told.0) c.refusal_answer.ensures
