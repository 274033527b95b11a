use Rattle.std.proofs.Common.{List, ap, ◌∙◌}
use Rattle.effect_fold.specs.declared.verdict.Verdict.{Verdict}
use Rattle.lru.specs.LruCache.{LruCache}
use Rattle.perm_value.specs.declared.value.Value.{Value}
use Rattle.answer_cache.specs.Cached.{entries_of}
use Rattle.answer_cache.proofs.CacheLemmas.{cached, found_in, not_found}
use Rattle.answer_cache.proofs.cache.Cache.find.Goals as goal

pub returns-clause-found : goal.returns-clause-found
returns-clause-found c =
    found_in c.args.request.now c.self.inside.entries c.get.follows.lender-at-none (entries_of c.args.self.now) c.copied.result (ap entries_of c.self.view_is) (c.copied.ensures ∙ c.get.ensures.value) c.get.follows.holds-at-none

pub returns-clause-none : goal.returns-clause-none
returns-clause-none c =
    not_found c.args.request.now c.self.inside.entries c.get.follows.lender-at-none c.copied.result _ (c.copied.ensures ∙ c.get.ensures.value) c.get.follows.holds-at-none
    (λ same. ap (λ (entries : LruCache (List Value) Verdict). cached c.self.inside.version entries) same ∙ c.self.view_is)
