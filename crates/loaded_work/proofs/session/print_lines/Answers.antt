use Rattle.std.proofs.lemmas.Result.{err_from_is_err_and}
use Rattle.loaded_work.proofs.PrintLemmas.{printed_front, printed_whole}
use Rattle.loaded_work.proofs.session.print_lines.Goals as goal

pub returns-in_err-push_all-clause-stopped : goal.returns-in_err-push_all-clause-stopped
returns-in_err-push_all-clause-stopped g c =
    let p = err_from_is_err_and c.from_residual.result c.from_residual.ensures.1 in
    rw (p.1, p.2) (λ told are. (printed_front _ _ c.as_slice.result.now told c.args.lines.now c.as_slice.ensures.value are c.in_err-push_all.ensures.stopped, c.in_err-push_all.ensures.failed))

pub returns-clause-printed : goal.returns-clause-printed
returns-clause-printed g c = λ told are. printed_whole _ _ c.as_slice.result.now told c.args.lines.now c.as_slice.ensures.value are c.in_ok-push_all.ensures.took
