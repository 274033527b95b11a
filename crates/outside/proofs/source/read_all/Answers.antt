use Rattle.std.proofs.lemmas.Result.{err_from_is_err_and}
use Rattle.outside.proofs.PieceLemmas.{read_on}
use Rattle.outside.proofs.source.read_all.Goals as goal

pub returns-in_err-map_err-clause-stopped : goal.returns-in_err-map_err-clause-stopped
returns-in_err-map_err-clause-stopped g c =
    let p = err_from_is_err_and c.from_residual-in_err-map_err.result c.from_residual-in_err-map_err.ensures.1 in
    rw p.1 (read_on _ _ _ _ _ _ _ _ _ _ c.loop-bytes.invariant c.in_ok-count.ensures.given)
