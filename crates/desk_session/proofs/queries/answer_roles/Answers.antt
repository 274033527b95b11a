use Rattle.std.proofs.Common.{Err, Ok, refl}
use Rattle.std.proofs.lemmas.Result.{IfOk-weaker}
use Rattle.std.specs.Option.{option_copied}
use Rattle.desk_session.proofs.QueryLemmas.{refused_is, roles_step}
use Rattle.desk_session.proofs.queries.answer_roles.Goals as goal

pub returns-in-Ok : goal.returns-in-Ok
returns-in-Ok c = roles_step c.args.desk.now c.state-state.result.now c.state-state.ensures.state c.version-version.result c.version-version.ensures.value
    c.args.relation c.args.name.now c.bytes.result.now c.args.domain.now (option_copied c.bytes_of.result) c.bytes.ensures.value c.bytes_of.ensures (Ok c.in-Ok.names) c.in-Ok.ensures.answer _ refl

pub returns-in-Err : goal.returns-in-Err
returns-in-Err c = IfOk-weaker c.refusal_answer.result _ _ (λ reply told. roles_step c.args.desk.now c.state-state.result.now c.state-state.ensures.state c.version-version.result c.version-version.ensures.value
    c.args.relation c.args.name.now c.bytes.result.now c.args.domain.now (option_copied c.bytes_of.result) c.bytes.ensures.value c.bytes_of.ensures (Err c.in-Err.refused) (refused_is _ c.in-Err.refused c.in-Err.ensures.answer told.1) reply told.0) c.refusal_answer.ensures
