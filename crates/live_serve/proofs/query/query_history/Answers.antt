use Rattle.std.proofs.lemmas.Result.{IfOk-weaker}
use Rattle.live_serve.proofs.QueryLemmas.{not_recalled, recalled_reply, told_query}
use Rattle.live_serve.proofs.query.query_history.Goals as goal

pub returns-in_ok-edit-in-Ok : goal.returns-in_ok-edit-in-Ok
returns-in_ok-edit-in-Ok c = recalled_reply c.args.state.now c.version-version.result c.version-version.ensures.value c.args.number c.in-Ok.edit.now c.in_ok-edit-in-Ok.edit c.in-Ok.ensures.answer c.in_ok-edit-in-Ok.ensures

pub returns-in-Err : goal.returns-in-Err
returns-in-Err c = IfOk-weaker c.told.result _ _ (λ reply told. told_query c.args.state.now _ c.in-Err.refused reply told.0 (not_recalled c.args.state.now c.args.number c.in-Err.refused c.in-Err.ensures.answer)) c.told.ensures
