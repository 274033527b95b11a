use Rattle.std.proofs.Common.{ap}
use Rattle.answer_cache.specs.Cached.{Cached, entries_of}
use Rattle.answer_cache.proofs.CacheLemmas.{kept_in}
use Rattle.answer_cache.proofs.cache.Cache.keep.Goals as goal

pub returns-clause-entries : goal.returns-clause-entries
returns-clause-entries c =
    kept_in c.args.request.now c.in-Ok.copy c.args.verdict c.self.inside.entries c.put.new.self (entries_of c.args.self.now) c.args.self.now.capacity
    (ap entries_of c.self.view_is) (ap (λ (cache : Cached). cache.capacity) c.self.view_is) c.in-Ok-put.ensures.entries c.in-Ok.ensures c.requires c.self.invariant.0
