use Rattle.std.proofs.lemmas.Result.{on_ok_weaker}
use Rattle.desk_session.proofs.CallerLemmas.{on_err_of}
use Rattle.live_rounds.specs.Helps.Turns.IsTurnDone.{made}
use Rattle.live_rounds.specs.Helps.Turns.IsTurnStopped.{unsaid}
use Rattle.live_rounds.proofs.beside.answer_item.Goals as goal

pub returns-clause-done : goal.returns-clause-done
returns-clause-done g c = on_ok_weaker c.push_told-told.result (λ pushed. made c.requires.other c.in_ok-reply.reply c.in_ok-reply.ensures.step pushed) c.push_told-told.ensures.pushed

pub returns-clause-stopped : goal.returns-clause-stopped
returns-clause-stopped g c = on_err_of c.push_told-told.result (unsaid c.requires.other c.in_ok-reply.reply c.in_ok-reply.ensures.step)
