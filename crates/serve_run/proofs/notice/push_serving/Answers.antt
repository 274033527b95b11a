use Rattle.std.proofs.Common.{◌++◌}
use Rattle.std.specs.Prelude.{codes, decimal}
use Rattle.std.proofs.lemmas.Result.{err_from_is_err_and}
use Rattle.outside.proofs.CallerLemmas.{pushes_stopped, pushes_then}
use Rattle.serve_run.proofs.notice.push_serving.Goals as goal

pub returns-in_err-push_named : goal.returns-in_err-push_named
returns-in_err-push_named g c =
    let p = err_from_is_err_and c.from_residual.result c.from_residual.ensures.1 in
    let first = codes "serving " ++ c.args.model.now in
    let second = codes ": " ++ decimal c.args.rules in
    rw p.1 (pushes_stopped _ _ _ _ (first ++ second) (codes " rules\n") _ (pushes_stopped _ _ _ _ first second _ c.in_err-push_named.ensures))

pub returns-in_err-push_counted : goal.returns-in_err-push_counted
returns-in_err-push_counted g c =
    let p = err_from_is_err_and c.from_residual-in_err-push_counted.result c.from_residual-in_err-push_counted.ensures.1 in
    let first = codes "serving " ++ c.args.model.now in
    let second = codes ": " ++ decimal c.args.rules in
    let both = pushes_then _ _ _ _ _ _ first second _ c.in_ok-push_named.ensures.took c.push_named.ensures.counted c.in_err-push_counted.ensures in
    rw p.1 (pushes_stopped _ _ _ _ (first ++ second) (codes " rules\n") _ both)

pub returns : goal.returns
returns g c =
    let first = codes "serving " ++ c.args.model.now in
    let second = codes ": " ++ decimal c.args.rules in
    let both = pushes_then _ _ _ _ _ _ first second _ c.in_ok-push_named.ensures.took c.push_named.ensures.counted c.in_ok-push_counted.ensures in
    pushes_then _ _ _ _ _ _ (first ++ second) (codes " rules\n") _ both.took both.counted c.push_all.ensures
