use Rattle.std.proofs.Common.{Err}
use Rattle.std.proofs.lemmas.Result.{on_ok_weaker}
use Rattle.regex_gate.proofs.CallerLemmas.{used_none}
use Rattle.desk_session.proofs.LogLemmas.{none_asked, on_err_of}
use Rattle.desk_session.proofs.RequestLemmas.{adds_reply, answers_fault}
use Rattle.desk_session.proofs.printed_reply.print_read.Goals as goal

pub returns-in-Refused-clause-added : goal.returns-in-Refused-clause-added
returns-in-Refused-clause-added g c =
    let fault = c.in-Refused.fault in
    rw c.in-Refused.is
    (on_ok_weaker c.push_answer.result (adds_reply c.args.program.now c.args.state.now _ _ (Err fault) c.args.replies.now c.push_answer.new.self _ (answers_fault c.args.program.now c.args.state.now (g.P.Finder.refusals c.args.finder.now) fault)) c.push_answer.ensures.pushed)

pub returns-in-Refused-clause-stopped : goal.returns-in-Refused-clause-stopped
returns-in-Refused-clause-stopped g c = on_err_of c.push_answer.result (none_asked _ _ _)

pub returns-in-Refused-clause-used : goal.returns-in-Refused-clause-used
returns-in-Refused-clause-used g c = used_none _
