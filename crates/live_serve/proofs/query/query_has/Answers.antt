use Rattle.std.proofs.Common.{Err, Ok, Option, refl, sym, subst}
use Rattle.std.proofs.lemmas.Result.{IfOk-weaker}
use Rattle.answer_lines.specs.declared.answer.Answer.{Answer}
use Rattle.answer_lines.specs.declared.answer.Answer.TheVariants as answer
use Rattle.live_serve.specs.Helps.Asked.{IsQueried}
use Rattle.desk_session.proofs.CallerLemmas.{refused_is}
use Rattle.live_serve.proofs.QueryLemmas.{has_reply, told_query}
use Rattle.live_serve.proofs.query.query_has.Goals as goal

pub returns-in-Ok : goal.returns-in-Ok
returns-in-Ok c = has_reply c.args.state.now c.version-version.result c.version-version.ensures.value c.args.table c.args.rule.now c.requires (Ok c.in-Ok.stands) (sym c.in-Ok.ensures.answer) _ refl

pub returns-in-Err : goal.returns-in-Err
returns-in-Err c = IfOk-weaker c.told.result _ _ (λ reply told. told_query c.args.state.now _ c.in-Err.refused reply told.0 (has_reply c.args.state.now c.version-version.result c.version-version.ensures.value c.args.table c.args.rule.now c.requires (Err c.in-Err.refused) (sym c.in-Err.ensures.answer) (answer.Query c.in-Err.refused) refl)) c.told.ensures
