-- The entries of a cache, through a look-up and one entry more.
use Rattle.std.proofs.Common.{◌≡◌, ℕ, ◌<◌, true, List, ◌∷◌, map, take, Option, Some, None, MatchOption, IfNone, refl, sym, ap, subst, ◌∙◌}
use Rattle.std.specs.Map.{lookup}
use Rattle.effect_fold.specs.declared.verdict.Verdict.{Verdict}
use Rattle.lru.specs.LruCache.{LruCache, lru_cache, promoted, put_entries}
use Rattle.perm_value.specs.Equality.{request_eq}
use Rattle.perm_value.specs.Helps.EqualityLaws.{equal_requests}
use Rattle.perm_value.specs.Seen.{datum}
use Rattle.perm_value.specs.declared.value.Value.{Value}
use Rattle.answer_cache.specs.Cached.{Cached, Entry, Stands}
use Rattle.answer_cache.specs.Answered.{GoesToFront}
use Rattle.answer_cache.proofs.EntryLemmas.{moved_stood, none_said, promoted_first, promoted_none, put_first, said}

abbrev Held : Type 0
Held = List (List Value × Verdict)

-- what entries say
abbrev pub seen : Held → List Entry
seen entries = said (map datum) entries

-- a cache, as contracts see it
abbrev pub cached : ℕ → LruCache (List Value) Verdict → Cached
cached version cache = record { version = version; capacity = cache.cap; entries = cache.entries }

same : (request key : List Value) → request_eq request key ≡ true → map datum key ≡ map datum request
same request key test = sym ((equal_requests request key (request_eq request key) refl).0 test)

equal : (request key : List Value) → map datum key ≡ map datum request → request_eq request key ≡ true
equal request key is = (equal_requests request key (request_eq request key) refl).1 (sym is)

-- a request that is looked up
looked_up : (request : List Value) (before after : Held) (r : Option Verdict) → r ≡ lookup (request_eq request) before → after ≡ promoted (request_eq request) before
    → MatchOption r (¬ (Stands (map datum request) (seen before))) (λ v. GoesToFront (map datum request, v) (seen before) (seen after))
looked_up request before after None is goes = λ stands. none_said (map datum) (request_eq request) (map datum request) (equal request) before stands.0 (sym is) stands.1
looked_up request before after (Some v) is goes =
    subst (λ (es : Held). GoesToFront (map datum request, v) (seen before) (seen es)) (sym goes) (promoted_first (map datum) (request_eq request) (map datum request) (same request) before v (sym is))

pub found_in : (request : List Value) (before after : LruCache (List Value) Verdict) (entries : List Entry) (r : Option Verdict) → seen before.entries ≡ entries → r ≡ lookup (request_eq request) before.entries
    → after ≡ lru_cache (promoted (request_eq request) before.entries) before.cap
    → MatchOption r (¬ (Stands (map datum request) entries)) (λ v. GoesToFront (map datum request, v) entries (seen after.entries))
found_in request before after entries r are is goes =
    subst (λ (es : List Entry). MatchOption r (¬ (Stands (map datum request) es)) (λ v. GoesToFront (map datum request, v) es (seen after.entries))) are
    (looked_up request before.entries after.entries r is (ap (λ (cache : LruCache (List Value) Verdict). cache.entries) goes))

-- where it is not found, the entries stay
pub not_found : (request : List Value) (before after : LruCache (List Value) Verdict) (r : Option Verdict) (Then : Type 0) → r ≡ lookup (request_eq request) before.entries
    → after ≡ lru_cache (promoted (request_eq request) before.entries) before.cap → (after ≡ before → Then) → IfNone r Then
not_found request before after None Then is goes next = next (goes ∙ ap (λ (es : Held). lru_cache es before.cap) (promoted_none (map datum) (request_eq request) before.entries (sym is)))
not_found request before after (Some v) Then is goes next = tt

-- a request that has no entry is found under none of the keys that are equal to it
absent : (request key : List Value) (entries : Held) → map datum key ≡ map datum request → ¬ (Stands (map datum request) (seen entries)) → (r : Option Verdict) → lookup (request_eq key) entries ≡ r → lookup (request_eq key) entries ≡ None
absent request key entries is none None h = h
absent request key entries is none (Some v) h =
    let goes = promoted_first (map datum) (request_eq key) (map datum request) (λ k t. same key k t ∙ is) entries v h in
    absurd (none (v, moved_stood (map datum request, v) (seen entries) (seen (promoted (request_eq key) entries)) goes))

-- one entry more
one_put : (request key : List Value) (v : Verdict) (cache : LruCache (List Value) Verdict) → map datum key ≡ map datum request → ¬ (Stands (map datum request) (seen cache.entries)) → 0 < cache.cap
    → seen (put_entries request_eq cache key v) ≡ take cache.cap ((map datum request, v) ∷ seen cache.entries)
one_put request key v cache is none some =
    put_first (map datum) request_eq cache key (map datum request) v is (absent request key cache.entries is none (lookup (request_eq key) cache.entries) refl) some

pub kept_in : (request key : List Value) (v : Verdict) (before after : LruCache (List Value) Verdict) (entries : List Entry) (capacity : ℕ) → seen before.entries ≡ entries → before.cap ≡ capacity
    → after ≡ lru_cache (put_entries request_eq before key v) before.cap → map datum key ≡ map datum request → ¬ (Stands (map datum request) entries) → 0 < before.cap
    → seen after.entries ≡ take capacity ((map datum request, v) ∷ entries)
kept_in request key v before after entries capacity are most put is none some =
    ap (λ (cache : LruCache (List Value) Verdict). seen cache.entries) put
    ∙ one_put request key v before is (subst (λ (es : List Entry). ¬ (Stands (map datum request) es)) (sym are) none) some
    ∙ ap (λ (n : ℕ). take n ((map datum request, v) ∷ seen before.entries)) most
    ∙ ap (λ (es : List Entry). take capacity ((map datum request, v) ∷ es)) are
