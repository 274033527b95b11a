use Rattle.std.proofs.Common.{◌≡◌, Err, inr, rules}
use Rattle.std.proofs.lemmas.Result.{err_from_is_err_and}
use Rattle.serve_run.proofs.OpenLemmas.{opened_is}
use Rattle.serve_run.proofs.opened.open_files.Goals as goal

pub returns-in_err-loaded-clause-stopped : goal.returns-in_err-loaded-clause-stopped
returns-in_err-loaded-clause-stopped g c =
    let stop : c.from_residual.result ≡ Err c.in_err-loaded.field-0.0 = search rules in
    rw stop c.in_err-loaded.ensures.stopped

pub returns-in_err-opened-clause-stopped : goal.returns-in_err-opened-clause-stopped
returns-in_err-opened-clause-stopped g c =
    let p = err_from_is_err_and c.from_residual-in_err-opened.result c.from_residual-in_err-opened.ensures.1 in
    rw (p.1, p.2) (inr (c.in_ok-loaded.loaded.model, c.in_ok-loaded.ensures.loaded.are_files.suits, c.in_ok-loaded.ensures.fetched))

pub returns-clause-opened : goal.returns-clause-opened
returns-clause-opened g c = opened_is (g.F.Shelf.files c.args.shelf.now) c.args.files.now c.args.options.now c.in_ok-loaded.loaded c.in_ok-opened.opened c.in_ok-loaded.ensures.loaded c.in_ok-opened.ensures
