-- Entries of an LRU cache, as what they say.
use Rattle.std.proofs.Common.{rules, ◌≡◌, ℕ, suc, ◌-◌, ◌<◌, arith, Bool, true, false, true≢false, List, [], ◌∷◌, ◌++◌, map, take, Some, None, refl, sym, ap, subst, ◌∙◌}
use Rattle.std.specs.Prelude.{Contains, All}
use Rattle.std.specs.Map.{lookup, lookup_entry, remove_entry}
use Rattle.std.proofs.lemmas.List.{map-append, take-map}
use Rattle.std.proofs.lemmas.List.Elements.{All-nil, All-cons, All-head, All-tail, All-contains, Contains-append_right}
use Rattle.lru.specs.LruCache.{LruCache, promoted, put_entries}
use Rattle.answer_cache.specs.Answered.{GoesToFront}

module _ {K V : Type 0} (test : K → Bool) where
  -- the list round the entry that is found
  record Found (es : List (K × V)) (e : K × V) : Type 0 where
    ahead : List (K × V)
    behind : List (K × V)
    whole : es ≡ ahead ++ e ∷ behind
    others : remove_entry test es ≡ ahead ++ behind
    passes : test e.0 ≡ true

  found : (es : List (K × V)) (e : K × V) → lookup_entry test es ≡ Some e → Found es e
  found [] e h = cc
  found (f ∷ es) e h = (elim (test f.0) as (λ b. test f.0 ≡ b → Found (f ∷ es) e) [
    | true ↦ λ t.
        let h' = rw t at h in
        let same : f ≡ e = cc in
        record { ahead = []; behind = es; whole = ap (λ (g : K × V). g ∷ es) same; others = rw t refl; passes = subst (λ (g : K × V). test g.0 ≡ true) same t }
    | false ↦ λ t.
        let rest = found es e (rw t at h) in
        record { ahead = f ∷ rest.ahead; behind = rest.behind; whole = ap (λ (l : List (K × V)). f ∷ l) rest.whole; others = rw t (ap (λ (l : List (K × V)). f ∷ l) rest.others); passes = rest.passes }
  ]) refl

  -- a look-up of the value and of the entry
  pub entry_of : (es : List (K × V)) (v : V) → lookup test es ≡ Some v → (e : K × V) × (lookup_entry test es ≡ Some e) × (e.1 ≡ v)
  entry_of [] v h = cc
  entry_of (f ∷ es) v h = (elim (test f.0) as (λ b. test f.0 ≡ b → (e : K × V) × (lookup_entry test (f ∷ es) ≡ Some e) × (e.1 ≡ v)) [
    | true ↦ λ t. let h' = rw t at h in (f, rw t refl, cc)
    | false ↦ λ t. let rest = entry_of es v (rw t at h) in (rest.0, rw t rest.1, rest.2)
  ]) refl

  pub no_entry : (es : List (K × V)) → lookup test es ≡ None → lookup_entry test es ≡ None
  no_entry [] h = refl
  no_entry (f ∷ es) h = (elim (test f.0) as (λ b. test f.0 ≡ b → lookup_entry test (f ∷ es) ≡ None) [
    | true ↦ λ t. let h' = rw t at h in cc
    | false ↦ λ t. rw t (no_entry es (rw t at h))
  ]) refl

module _ {K D V : Type 0} (datum : K → D) where
  abbrev pub said : List (K × V) → List (D × V)
  said es = map (λ e. (datum e.0, e.1)) es

  -- an entry whose key stands for d goes to the front
  pub promoted_first : (test : K → Bool) (d : D) → ((k : K) → test k ≡ true → datum k ≡ d) → (es : List (K × V)) (v : V) → lookup test es ≡ Some v
      → GoesToFront (d, v) (said es) (said (promoted test es))
  promoted_first test d same es v h =
      let e = entry_of test es v h in
      let at = found test es e.0 e.1 in
      let is : (datum e.0.0, e.0.1) ≡ (d, v) = ap (λ (x : D). (x, e.0.1)) (same e.0.0 at.passes) ∙ ap (λ (w : V). (d, w)) e.2 in
      let front : promoted test es ≡ e.0 ∷ at.ahead ++ at.behind = rw e.1 (ap (λ (l : List (K × V)). e.0 ∷ l) at.others) in
      let whole : said es ≡ said at.ahead ++ (datum e.0.0, e.0.1) ∷ said at.behind = ap said at.whole ∙ map-append (λ (f : K × V). (datum f.0, f.1)) at.ahead (e.0 ∷ at.behind) in
      let first : said (promoted test es) ≡ (datum e.0.0, e.0.1) ∷ said at.ahead ++ said at.behind
      = ap said front ∙ ap (λ (l : List (D × V)). (datum e.0.0, e.0.1) ∷ l) (map-append (λ (f : K × V). (datum f.0, f.1)) at.ahead at.behind) in
      record {
        ahead = said at.ahead;
        behind = said at.behind;
        stood = whole ∙ ap (λ (f : D × V). said at.ahead ++ f ∷ said at.behind) is;
        moved = first ∙ ap (λ (f : D × V). f ∷ said at.ahead ++ said at.behind) is;
      }

  -- nothing found, nothing moves
  pub promoted_none : (test : K → Bool) (es : List (K × V)) → lookup test es ≡ None → promoted test es ≡ es
  promoted_none test es h = rw (no_entry test es h) refl

  apart : (test : K → Bool) (d : D) → ((k : K) → datum k ≡ d → test k ≡ true) → (es : List (K × V)) → lookup test es ≡ None → All (λ (f : D × V). ¬ (f.0 ≡ d)) (said es)
  apart test d same [] h = All-nil (λ (f : D × V). ¬ (f.0 ≡ d))
  apart test d same (f ∷ es) h = (elim (test f.0) as (λ b. test f.0 ≡ b → All (λ (g : D × V). ¬ (g.0 ≡ d)) (said (f ∷ es))) [
    | true ↦ λ t. let h' = rw t at h in cc
    | false ↦ λ t. All-cons (λ (g : D × V). ¬ (g.0 ≡ d)) (datum f.0, f.1) (said es) (λ is. true≢false (sym (same f.0 is) ∙ t)) (apart test d same es (rw t at h))
  ]) refl

  -- nothing found, nothing stands there
  pub none_said : (test : K → Bool) (d : D) → ((k : K) → datum k ≡ d → test k ≡ true) → (es : List (K × V)) (v : V) → lookup test es ≡ None → ¬ (Contains (said es) (d, v))
  none_said test d same es v h = λ c. All-contains (λ (f : D × V). ¬ (f.0 ≡ d)) (said es) (d, v) (apart test d same es h) c refl

  -- one more entry
  pub put_first : (eq : K → K → Bool) (c : LruCache K V) (k : K) (d : D) (v : V) → datum k ≡ d → lookup (eq k) c.entries ≡ None → 0 < c.cap
      → said (put_entries eq c k v) ≡ take c.cap ((d, v) ∷ said c.entries)
  put_first eq c k d v is h some =
      let put : put_entries eq c k v ≡ (k, v) ∷ take (c.cap - 1) c.entries = rw (no_entry (eq k) c.entries h) refl in
      let room : c.cap ≡ suc (c.cap - 1) = omega arith in
      ap said put ∙ ap (λ (x : D). (x, v) ∷ said (take (c.cap - 1) c.entries)) is
      ∙ ap (λ (l : List (D × V)). (d, v) ∷ l) (sym (take-map (λ (f : K × V). (datum f.0, f.1)) (c.cap - 1) c.entries))
      ∙ ap (λ (n : ℕ). take n ((d, v) ∷ said c.entries)) (sym room)

-- ---- what holds of each entry

pub all_moved : {A : Type 0} (P : A → Type 0) (item : A) (before after : List A) → GoesToFront item before after → All P before → All P after
all_moved {A = A} P item before after goes all =
    let parts : All P (goes.ahead ++ item ∷ goes.behind) = subst (All P) goes.stood all in
    subst (All P) (sym goes.moved) (round goes.ahead goes.behind parts)
  where
    round : (ahead behind : List A) → All P (ahead ++ item ∷ behind) → All P (item ∷ ahead ++ behind)
    round [] behind all = all
    round (x ∷ ahead) behind all =
        let rest = round ahead behind (All-tail P x (ahead ++ item ∷ behind) all) in
        All-cons P item (x ∷ ahead ++ behind) (All-head P item (ahead ++ behind) rest)
        (All-cons P x (ahead ++ behind) (All-head P x (ahead ++ item ∷ behind) all) (All-tail P item (ahead ++ behind) rest))

pub moved_stood : {A : Type 0} (item : A) (before after : List A) → GoesToFront item before after → Contains before item
moved_stood item before after goes = subst (λ l. Contains l item) (sym goes.stood) (Contains-append_right goes.ahead (item ∷ goes.behind) item (search rules))
