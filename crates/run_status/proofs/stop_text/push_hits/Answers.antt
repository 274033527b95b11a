use Rattle.std.specs.Prelude.{◌++◌, codes, decimal}
use Rattle.std.proofs.lemmas.Result.{err_from_is_err_and}
use Rattle.outside.proofs.CallerLemmas.{pushes_stopped, pushes_then}
use Rattle.run_status.proofs.stop_text.push_hits.Goals as goal

pub returns-in_err-push_numbered : goal.returns-in_err-push_numbered
returns-in_err-push_numbered g c =
    let p = err_from_is_err_and c.from_residual.result c.from_residual.ensures.1 in
    rw p.1 (pushes_stopped _ _ _ _ (codes "cache: hits " ++ decimal c.args.hits) (codes "\n") _ c.in_err-push_numbered.ensures)

pub returns : goal.returns
returns g c = pushes_then _ _ _ _ _ _ (codes "cache: hits " ++ decimal c.args.hits) (codes "\n") _ c.in_ok-push_numbered.ensures.took c.push_numbered.ensures.counted c.push_all.ensures
