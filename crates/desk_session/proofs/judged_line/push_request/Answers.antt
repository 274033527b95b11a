use Rattle.std.proofs.Common.{Err}
use Rattle.std.proofs.lemmas.Result.{on_ok_weaker}
use Rattle.desk_session.proofs.LogLemmas.{none_asked, on_err_of}
use Rattle.desk_session.proofs.RequestLemmas.{answers_fault, tells}
use Rattle.desk_session.proofs.judged_line.push_request.Goals as goal

pub returns-in-Refused-clause-told : goal.returns-in-Refused-clause-told
returns-in-Refused-clause-told g c =
    let fault = c.in-Refused.fault in
    rw c.in-Refused.is
    (on_ok_weaker c.push_line.result (tells c.args.program.now c.args.state.now _ _ (Err fault) c.args.number c.args.text.now c.push_line.new.text _ (answers_fault c.args.program.now c.args.state.now (g.P.Finder.refusals c.args.finder.now) fault)) c.push_line.ensures.appended)

pub returns-in-Refused-clause-stopped : goal.returns-in-Refused-clause-stopped
returns-in-Refused-clause-stopped g c = on_err_of c.push_line.result (none_asked _ _ _)
