use Rattle.std.specs.Option.{option_copied}
use Rattle.std.proofs.lemmas.Result.{IfOk-weaker}
use Rattle.answer_lines.specs.declared.answer.Answer.TheVariants as answer
use Rattle.policy_state.specs.States.{tables}
use Rattle.rbac_query.specs.Asked.{AreImplicitUsers, hierarchy}
use Rattle.loaded_work.proofs.RolesLemmas.{refused_printable, replied, replied_not}
use Rattle.loaded_work.proofs.implied.users.Goals as goal

pub returns-in-Ok-clause-reply : goal.returns-in-Ok-clause-reply
returns-in-Ok-clause-reply c = replied _ _ (answer.Users 0) c.in-Ok.names c.in-Ok.ensures.answer

pub returns-in-Err-clause-reply : goal.returns-in-Err-clause-reply
returns-in-Err-clause-reply c = IfOk-weaker c.refusal_answer.result _ _ (λ reply both. replied_not _ _ (answer.Users 0) c.in-Err.refused reply c.in-Err.ensures.answer both.0 both.1) c.refusal_answer.ensures

pub returns-in-Err-clause-printable : goal.returns-in-Err-clause-printable
returns-in-Err-clause-printable c =
    let domain = option_copied c.args.domain in
    IfOk-weaker c.refusal_answer.result _ _ (λ reply both. refused_printable c.args.state.now.shapes domain (AreImplicitUsers c.args.state.now.shapes (tables c.args.state.now) hierarchy domain c.args.name.now) c.in-Err.refused reply c.in-Err.ensures.answer both.0 both.1) c.refusal_answer.ensures
