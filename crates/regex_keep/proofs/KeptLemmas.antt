-- The searches that are kept, through a look, a search and one more search.
use Rattle.std.proofs.Common.{◌≡◌, ℕ, Bool, true, false, List, [], ◌∷◌, ◌⊎◌, inl, inr, Some, Result, Ok, Err, OnOk, OnErr, refl, sym, ap, ◌∙◌, subst}
use Rattle.std.specs.Prelude.{All, Contains, bytes_eq}
use Rattle.std.specs.Global.{Vec}
use Rattle.std.specs.Map.{lookup, set_value}
use Rattle.std.proofs.lemmas.List.Elements.{All-cons, All-head, All-tail, All-nil, All-contains, All-contains_itself, All-weaker}
use Rattle.std.proofs.lemmas.Slice.Eq.{bytes_eq-Decides}
use Rattle.lru.specs.LruCache.{LruCache, lru_cache, promoted, put_entries}
use Rattle.lru.proofs.CallerLemmas.{Contains-lookup, Contains-promoted, Contains-put_entries, IsPut}
use Rattle.regex_keep.specs.Helps.Kept.{AreKept}

abbrev Searches : Type 0
Searches = LruCache (Vec ℕ) (List ℕ)

abbrev Entry : Type 0
Entry = Vec ℕ × List ℕ

abbrev IsKept : Entry → Type 0
IsKept entry = entry.1 ≡ entry.0.items

abbrev AllKept : List Entry → Type 0
AllKept entries = All IsKept entries

abbrev is_under : List ℕ → Vec ℕ → Bool
is_under pattern key = bytes_eq pattern key.items

abbrev are_same : Vec ℕ → Vec ℕ → Bool
are_same key other = bytes_eq key.items other.items

-- what is found under a pattern is for this pattern
pub kept_under : (searches : Searches) (pattern search : List ℕ) → AreKept searches → lookup (is_under pattern) searches.entries ≡ Some search → search ≡ pattern
kept_under searches pattern search kept is =
    let at = Contains-lookup (is_under pattern) searches.entries search is in
    All-contains IsKept searches.entries (at.0, search) kept.under at.1 ∙ sym ((bytes_eq-Decides pattern at.0.items).0 at.2)

set_kept : (test : Vec ℕ → Bool) (entries : List Entry) (search : List ℕ) → AllKept entries → ((key : Vec ℕ) → test key ≡ true → search ≡ key.items)
    → AllKept (set_value test entries search)
set_kept test [] search kept under = All-nil IsKept
set_kept test (e ∷ es) search kept under = (elim (test e.0) as (λ b. test e.0 ≡ b → AllKept (set_value test (e ∷ es) search)) [
  | true ↦ λ t. rw t (All-cons IsKept (e.0, search) es (under e.0 t) (All-tail IsKept e es kept))
  | false ↦ λ t. rw t (All-cons IsKept e (set_value test es search) (All-head IsKept e es kept) (set_kept test es search (All-tail IsKept e es kept) under))
]) refl

promoted_kept : (test : Vec ℕ → Bool) (entries : List Entry) → AllKept entries → AllKept (promoted test entries)
promoted_kept test entries kept = All-weaker (Contains (promoted test entries)) IsKept
    (λ e stands. All-contains IsKept entries e kept (Contains-promoted test entries e stands)) (promoted test entries) (All-contains_itself (promoted test entries))

-- a search that was used, and is still for its pattern
pub kept_used : (searches : Searches) (pattern search : List ℕ) → AreKept searches → search ≡ pattern
    → AreKept (lru_cache (set_value (is_under pattern) (promoted (is_under pattern) searches.entries) search) searches.cap)
kept_used searches pattern search kept is = record {
  under = set_kept (is_under pattern) (promoted (is_under pattern) searches.entries) search (promoted_kept (is_under pattern) searches.entries kept.under)
      (λ key under. is ∙ (bytes_eq-Decides pattern key.items).0 under);
  most = kept.most;
}

-- one more search
kept_put : (searches : Searches) (key : Vec ℕ) (search : List ℕ) → AreKept searches → search ≡ key.items
    → AreKept (lru_cache (put_entries are_same searches key search) searches.cap)
kept_put cache key search kept is =
    let after = put_entries are_same cache key search in
    record {
      under = All-weaker (Contains after) IsKept (λ e stands. by e (Contains-put_entries are_same cache key search e stands)) after (All-contains_itself after);
      most = kept.most;
    }
  where
    under : (e : Entry) → (e.0 ≡ key) ⊎ ((w : List ℕ) × Contains cache.entries (e.0, w) × (are_same key e.0 ≡ true)) → key.items ≡ e.0.items
    under e (inl same) = sym (ap (λ (k : Vec ℕ). k.items) same)
    under e (inr stood) = (bytes_eq-Decides key.items e.0.items).0 stood.2

    by : (e : Entry) → Contains cache.entries e ⊎ IsPut are_same cache key search e → IsKept e
    by e (inl stood) = All-contains IsKept cache.entries e kept.under stood
    by e (inr put) = put.0 ∙ is ∙ under e put.1

-- the same, where it may find no memory
pub kept_tried : {A E : Type 0} (old new : Searches) (key : Vec ℕ) (search : List ℕ) (result : Result A E) → AreKept old → search ≡ key.items
    → OnOk result (new ≡ lru_cache (put_entries are_same old key search) old.cap) → OnErr result (new ≡ old) → AreKept new
kept_tried old new key search (Ok a) kept is ok err = subst AreKept (sym ok) (kept_put old key search kept is)
kept_tried old new key search (Err e) kept is ok err = subst AreKept (sym err) kept
