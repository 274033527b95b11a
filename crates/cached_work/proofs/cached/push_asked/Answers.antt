use Rattle.std.proofs.Common.{refl}
use Rattle.answer_lines.specs.declared.answer.Answer.TheVariants as answer
use Rattle.desk_session.proofs.CallerLemmas.{answers_fault}
use Rattle.cached_work.proofs.cached.push_asked.Goals as goal

pub returns-in_ok-push_line-in-Refused-clause-told : goal.returns-in_ok-push_line-in-Refused-clause-told
returns-in_ok-push_line-in-Refused-clause-told g c =
    let fault = c.in-Refused.fault in
    rw c.in-Refused.is
    (record { told = record { reply = answer.Request fault; answered = answers_fault c.args.court.now.program.now c.args.court.now.state.now (g.P.Finder.refusals c.args.finder.now) fault; appended = c.in_ok-push_line-in-Refused.ensures.appended }; turn = (refl, refl) })
