use Rattle.std.specs.Prelude.{codes}
use Rattle.std.proofs.lemmas.Result.{err_from_is_err_and}
use Rattle.outside.proofs.CallerLemmas.{pushes_stopped, pushes_then}
use Rattle.run_status.proofs.stop_text.push_stop.Goals as goal

pub returns-in_err-push_message : goal.returns-in_err-push_message
returns-in_err-push_message g c =
    let p = err_from_is_err_and c.from_residual.result c.from_residual.ensures.1 in
    rw (p.1, ← c.message_of.ensures) (pushes_stopped _ _ _ _ _ (codes "\n") _ c.in_err-push_message.ensures)

pub returns : goal.returns
returns g c = rw (← c.message_of.ensures) (pushes_then _ _ _ _ _ _ _ (codes "\n") _ c.in_ok-push_message.ensures.took c.push_message.ensures.counted c.push_all.ensures)
