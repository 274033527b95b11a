use Rattle.std.proofs.Common.{Err, Ok, List, Option, ℕ, refl, subst}
use Rattle.std.proofs.lemmas.Result.{IfOk-weaker}
use Rattle.std.specs.Option.{option_copied}
use Rattle.answer_lines.specs.declared.answer.Answer.TheVariants as answer
use Rattle.desk_session.proofs.CallerLemmas.{refused_is}
use Rattle.live_serve.proofs.QueryLemmas.{users_reply, same_users, told_query}
use Rattle.live_serve.proofs.query.query_users.Goals as goal

pub returns-in-Ok : goal.returns-in-Ok
returns-in-Ok c = same_users c.args.state.now c.args.relation c.args.name.now c.bytes.result.now c.args.domain.now (option_copied c.bytes_of.result) c.bytes.ensures.value c.bytes_of.ensures _ (users_reply c.args.state.now c.version-version.result c.version-version.ensures.value c.args.relation c.bytes.result.now (option_copied c.bytes_of.result) c.requires (Ok c.in-Ok.names) c.in-Ok.ensures.answer _ refl)

pub returns-in-Err : goal.returns-in-Err
returns-in-Err c = IfOk-weaker c.told.result _ _ (λ reply told. told_query c.args.state.now _ c.in-Err.refused reply told.0
    (same_users c.args.state.now c.args.relation c.args.name.now c.bytes.result.now c.args.domain.now (option_copied c.bytes_of.result) c.bytes.ensures.value c.bytes_of.ensures _ (users_reply c.args.state.now c.version-version.result c.version-version.ensures.value c.args.relation c.bytes.result.now (option_copied c.bytes_of.result) c.requires (Err c.in-Err.refused) (refused_is _ c.in-Err.refused c.in-Err.ensures.answer told.1) (answer.Query c.in-Err.refused) refl))) c.told.ensures
