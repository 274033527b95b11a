use Rattle.std.proofs.lemmas.Result.{err_from_is_err_and}
use Rattle.outside.proofs.CallerLemmas.{pushes_stopped, pushes_then}
use Rattle.serve_run.proofs.notice.push_named.Goals as goal

pub returns-in_err-push_text : goal.returns-in_err-push_text
returns-in_err-push_text g c =
    let p = err_from_is_err_and c.from_residual.result c.from_residual.ensures.1 in
    rw p.1 (pushes_stopped _ _ _ _ c.args.text.now c.args.name.now _ c.in_err-push_text.ensures)

pub returns : goal.returns
returns g c = pushes_then _ _ _ _ _ _ c.args.text.now c.args.name.now _ c.in_ok-push_text.ensures.took c.push_text.ensures.counted c.push_text-2.ensures
