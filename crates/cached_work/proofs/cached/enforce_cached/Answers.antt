use Rattle.std.proofs.lemmas.Result.{err_from_is_err_and}
use Rattle.regex_gate.proofs.CallerLemmas.{used_none}
use Rattle.script_read.specs.Script.{IsRequests}
use Rattle.cached_work.proofs.CachedWork.{cached_memory, cached_over}
use Rattle.cached_work.proofs.cached.enforce_cached.Goals as goal

pub returns-in_err-opened : goal.returns-in_err-opened
returns-in_err-opened g c =
    let p = err_from_is_err_and c.from_residual.result c.from_residual.ensures.1 in
    rw (p.1, p.2) (cached_memory (IsRequests c.args.json c.args.input.now) _ _ _ c.args.capacity _ _ _ (used_none _))

pub returns : goal.returns
returns g c = cached_over (IsRequests c.args.json c.args.input.now) c.args.loaded _ _ c.args.capacity _ _ _ _ _ _ c.answer_cached.result c.in_ok-opened.ensures c.answer_cached.ensures
