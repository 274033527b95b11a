use Rattle.std.proofs.lemmas.Result.{on_ok_weaker}
use Rattle.regex_gate.proofs.CallerLemmas.{used_none}
use Rattle.live_rounds.proofs.ServedLemmas.{behind_fault}
use Rattle.live_rounds.proofs.seat_answers.answer_read.Goals as goal

pub returns-in-Refused-clause-served : goal.returns-in-Refused-clause-served
returns-in-Refused-clause-served g c =
    rw c.in-Refused.is (on_ok_weaker c.print.result (behind_fault c.args.program.now _ _ c.args.replies.now c.print.new.replies (g.P.Finder.refusals c.args.finder.now) c.args.seat.now c.in-Refused.fault) c.print.ensures.printed)

pub returns-in-Refused-clause-used : goal.returns-in-Refused-clause-used
returns-in-Refused-clause-used g c = used_none _
