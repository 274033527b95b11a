use Rattle.std.proofs.Common.{Err, Ok, Option, refl, sym, subst}
use Rattle.std.proofs.lemmas.Result.{IfOk-weaker}
use Rattle.answer_lines.specs.declared.answer.Answer.{Answer}
use Rattle.answer_lines.specs.declared.answer.Answer.TheVariants as answer
use Rattle.live_serve.specs.Helps.Asked.{IsQueried}
use Rattle.desk_session.proofs.CallerLemmas.{refused_is}
use Rattle.live_serve.proofs.QueryLemmas.{rows_reply, told_query}
use Rattle.live_serve.proofs.query.query_rows.Goals as goal

pub returns-in-Ok : goal.returns-in-Ok
returns-in-Ok c = rows_reply c.args.state.now c.version-version.result c.version-version.ensures.value c.args.table c.args.at c.args.values.now c.requires (Ok c.in-Ok.rules) c.in-Ok.ensures.answer _ refl

pub returns-in-Err : goal.returns-in-Err
returns-in-Err c = IfOk-weaker c.told.result _ _ (λ reply told. told_query c.args.state.now _ c.in-Err.refused reply told.0 (rows_reply c.args.state.now c.version-version.result c.version-version.ensures.value c.args.table c.args.at c.args.values.now c.requires (Err c.in-Err.refused) (refused_is _ c.in-Err.refused c.in-Err.ensures.answer told.1) (answer.Query c.in-Err.refused) refl)) c.told.ensures
