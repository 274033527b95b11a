use Rattle.std.proofs.lemmas.Result.{err_from_is_err_and}
use Rattle.regex_gate.proofs.CallerLemmas.{used_none}
use Rattle.script_read.specs.Script.{IsRequests}
use Rattle.cached_work.proofs.CachedLemmas.{fresh_cache}
use Rattle.cached_work.proofs.CachedWork.{cached_memory, cached_ok, cached_stopped}
use Rattle.cached_work.proofs.cached.answer_cached.Goals as goal

pub returns-in_err-cache : goal.returns-in_err-cache
returns-in_err-cache g c =
    let p = err_from_is_err_and c.from_residual.result c.from_residual.ensures.1 in
    rw (p.1, p.2) (cached_memory (IsRequests c.args.court.now.json c.args.input.now) _ _ _ c.args.capacity _ _ _ (used_none _))

pub print_cached-requires-clause-fresh : goal.print_cached-requires-clause-fresh
print_cached-requires-clause-fresh g c = λ lifetimes outlive. (fresh_cache c.in_ok-cache.cache _ _ c.in_ok-cache.ensures c.requires.opening).0

pub returns-in_err-hits : goal.returns-in_err-hits
returns-in_err-hits g c =
    let p = err_from_is_err_and c.from_residual-in_err-hits.result c.from_residual-in_err-hits.ensures.1 in
    rw (p.1, p.2) (cached_stopped (IsRequests c.args.court.now.json c.args.input.now) _ _ _ c.args.capacity _ _ _ _ _ _ c.in_err-hits.ensures.stopped c.print_cached.ensures.counted c.print_cached.ensures.used)

pub returns : goal.returns
returns g c =
    let size = (fresh_cache c.in_ok-cache.cache _ _ c.in_ok-cache.ensures c.requires.opening).1 in
    cached_ok (IsRequests c.args.court.now.json c.args.input.now) _ _ _ c.args.capacity _ _ _ _ _ _ _ _ _ size c.in_ok-hits.ensures.printed c.tell_hits.ensures c.print_cached.ensures.counted c.print_cached.ensures.used
