use Rattle.desk_session.proofs.CallerLemmas.{on_err_of}
use Rattle.live_rounds.proofs.seat_answers.print.Goals as goal

pub returns-in_err-push_answer-clause-same : goal.returns-in_err-push_answer-clause-same
returns-in_err-push_answer-clause-same c = on_err_of c.from_residual.result c.in_err-push_answer.ensures.same
