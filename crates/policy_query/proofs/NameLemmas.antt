-- Names that are gathered from rules in turn, each once, and shown by references.
use Rattle.std.proofs.Common.{◌≡◌, ℕ, ◌+◌, ◌<◌, ◌^◌, Bool, true, false, cond, if◌then◌else◌, ◌||◌, List, [], ◌∷◌, ◌++◌, length, map, filter, take, get_or, slice_get, Option, Some, Bor, refl, sym, ap, ◌∙◌, arith}
use Rattle.std.specs.List.{list_any}
use Rattle.std.specs.Str.{bytes_eq}
use Rattle.std.proofs.lemmas.List.{append-nil, length-map, map_push}
use Rattle.std.proofs.lemmas.List.Elements.{filter_more}
use Rattle.std.proofs.lemmas.List.Folds.{list_any-append}
use Rattle.std.proofs.lemmas.Option.{get_or_from_slice_get, slice_get_within}
use Rattle.indexmap.specs.IndexSet.{insert_key}
use Rattle.perm_base.specs.LineEnds.{has_line_end}
use Rattle.policy_table.specs.Limits.{different}
use Rattle.policy_table.specs.Tables.{Fields}
use Rattle.policy_table.proofs.CallerLemmas.{different_fewer, different_push, fewer}
use Rattle.policy_query.specs.Names.{is_asked, names_beside}

-- references to texts, and the texts
abbrev pub Keys : Type 0
Keys = List (Bor (List ℕ))

abbrev pub shown : Keys → List (List ℕ)
shown keys = map (λ (key : Bor (List ℕ)). key.now) keys

-- the keys with one more, which goes last unless its text is shown already
abbrev pub with_key : Keys → Bor (List ℕ) → Keys
with_key keys key = insert_key (λ (x y : Bor (List ℕ)). bytes_eq x.now y.now) keys key

any_shown : (test : List ℕ → Bool) (keys : Keys) → list_any (λ (key : Bor (List ℕ)). test key.now) keys ≡ list_any test (shown keys)
any_shown test [] = refl
any_shown test (key ∷ keys) = ap (λ b. test key.now || b) (any_shown test keys)

shown_with : (keys : Keys) (key : Bor (List ℕ)) → shown (with_key keys key) ≡ insert_key bytes_eq (shown keys) key.now
shown_with keys key =
    by (list_any (λ (other : Bor (List ℕ)). bytes_eq key.now other.now) keys)
    ∙ ap (λ b. if b then shown keys else shown keys ++ key.now ∷ []) (any_shown (bytes_eq key.now) keys)
  where
    by : (b : Bool) → shown (if b then keys else keys ++ key ∷ []) ≡ (if b then shown keys else shown keys ++ key.now ∷ [])
    by true = refl
    by false = map_push (λ (other : Bor (List ℕ)). other.now) keys key

-- texts without line ends, and one more
pub whole_next : (keys new : Keys) (key : Bor (List ℕ)) → list_any has_line_end (shown keys) ≡ false → has_line_end key.now ≡ false → new ≡ with_key keys key → list_any has_line_end (shown new) ≡ false
whole_next keys new key whole text inserted = ap (λ (l : Keys). list_any has_line_end (shown l)) inserted ∙ ap (list_any has_line_end) (shown_with keys key) ∙ by (list_any (bytes_eq key.now) (shown keys))
  where
    by : (b : Bool) → list_any has_line_end (if b then shown keys else shown keys ++ key.now ∷ []) ≡ false
    by true = whole
    by false = list_any-append has_line_end (shown keys) (key.now ∷ []) ∙ (λ j. whole j || (text j || false))

module _ (asked told : ℕ) (name : List ℕ) (domain : Option (List ℕ)) (rules : List Fields) where
  abbrev passes : Fields → Bool
  passes = is_asked asked name domain

  abbrev name_of : Fields → List ℕ
  name_of rule = get_or rule told []

  -- there are no more names than rules
  pub few_names : (keys : Keys) → shown keys ≡ names_beside asked told name domain rules → length rules < 2 ^ 32 → length keys < 2 ^ 32
  few_names keys are few =
      let as_long = length-map keys (λ (key : Bor (List ℕ)). key.now) in
      let named = length-map (filter passes rules) name_of in
      omega (arith, as_long, named, ap length are, different_fewer (map name_of (filter passes rules)), fewer passes rules, few)

  module _ (at : ℕ) (rule : Fields) (here : slice_get rules at ≡ Some rule) where
    -- the rules that pass, and one more by its test
    passing : (b : Bool) → passes rule ≡ b → filter passes (take (at + 1) rules) ≡ filter passes (take at rules) ++ cond b (rule ∷ []) []
    passing b e =
        filter_more passes rules at rule (slice_get_within rules at rule here)
        ∙ ap (λ (r : Fields). filter passes (take at rules) ++ cond (passes r) (r ∷ []) []) (get_or_from_slice_get rules at rule rule here)
        ∙ ap (λ (c : Bool). filter passes (take at rules) ++ cond c (rule ∷ []) []) e

    -- a rule that passes adds its name, unless it is there
    pub names_next : (keys new : Keys) (key : Bor (List ℕ)) → passes rule ≡ true → slice_get rule told ≡ Some key.now → shown keys ≡ names_beside asked told name domain (take at rules)
        → new ≡ with_key keys key → shown new ≡ names_beside asked told name domain (take (at + 1) rules)
    names_next keys new key pass field are inserted =
        ap shown inserted ∙ shown_with keys key ∙ ap (λ (l : List (List ℕ)). insert_key bytes_eq l key.now) are
        ∙ ap (insert_key bytes_eq (names_beside asked told name domain (take at rules))) (sym (get_or_from_slice_get rule told key.now [] field))
        ∙ sym (ap (λ (l : List Fields). different (map name_of l)) (passing true pass) ∙ ap different (map_push name_of (filter passes (take at rules)) rule) ∙ different_push (map name_of (filter passes (take at rules))) (name_of rule))

    -- and another adds none
    pub names_same : (keys : Keys) → passes rule ≡ false → shown keys ≡ names_beside asked told name domain (take at rules) → shown keys ≡ names_beside asked told name domain (take (at + 1) rules)
    names_same keys fail are = are ∙ sym (ap (λ (l : List Fields). different (map name_of l)) (passing false fail ∙ append-nil (filter passes (take at rules))))
