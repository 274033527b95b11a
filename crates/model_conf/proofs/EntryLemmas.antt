-- Entries in memory, one after the other.
use Rattle.std.proofs.Common.{◌≡◌, ℕ, suc, ◌+◌, ◌-◌, ◌<◌, ◌≤◌, ◌||◌, Bool, List, [], ◌∷◌, ◌++◌, length, drop, get_or, Option, Some, None, refl, sym, ap, ◌∙◌, arith, drop-cons}
use Rattle.std.specs.Prelude.{option_and_then}
use Rattle.std.specs.List.{list_any}
use Rattle.std.specs.Option.{option_or}
use Rattle.std.specs.Str.{bytes_eq}
use Rattle.std.proofs.lemmas.List.{append_assoc}
use Rattle.std.proofs.Math.Numerals.{add-one}
use Rattle.matcher_read.specs.Calls.{relation_names}
use Rattle.perm_base.specs.declared.shapes.RoleShape.{RoleShape}
use Rattle.model_conf.specs.Relations.{bad_shape_of, first_bad_shape, relations_from, relations_of, shape, value_of, with_domain_of, with_relation}
use Rattle.model_conf.specs.Sections.{Entry, is_key_of}
use Rattle.model_conf.specs.Helps.Seen.{entries_seen, entry_seen}
use Rattle.model_conf.specs.declared.entries.Entry.{Entry as Kept}

-- ---- whether a key has a value

pub is_key-seen : (kept : List Kept) (key : List ℕ) → list_any (λ (e : Kept). bytes_eq e.key.now key) kept ≡ is_key_of (entries_seen kept) key
is_key-seen [] key = refl
is_key-seen (e ∷ kept) key = ap (λ (b : Bool). bytes_eq e.key.now key || b) (is_key-seen kept key)

-- ---- shapes

pub bad_here : (kept : List Kept) (d : Kept) (at : ℕ) (found : Option ℕ) → at < length kept → found ≡ bad_shape_of (entry_seen (get_or kept at d)) → first_bad_shape (entries_seen (drop at kept)) ≡ option_or found (first_bad_shape (entries_seen (drop (at + 1) kept)))
unfolding first_bad_shape
bad_here kept d at found within is = rw (add-one, drop-cons kept at d within, is) refl

-- ---- relations

pub relation_further : (entries : List Entry) (found : List RoleShape) (number : ℕ) (declared : Option Bool) → 0 < number → number ≤ 8 → declared ≡ option_and_then with_domain_of (value_of entries (get_or relation_names (number - 1) []))
    → found ++ relations_from entries number (drop (number - 1) relation_names) ≡ found ++ with_relation number declared (relations_from entries (number + 1) (drop number relation_names))
relation_further entries found number declared some few is =
    let within : number - 1 < length relation_names = omega arith in
    let next : suc (number - 1) ≡ number = omega arith in
    let names : drop (number - 1) relation_names ≡ get_or relation_names (number - 1) [] ∷ drop number relation_names = drop-cons relation_names (number - 1) [] within ∙ ap (λ (n : ℕ). get_or relation_names (number - 1) [] ∷ drop n relation_names) next in
    ap (λ (l : List (List ℕ)). found ++ relations_from entries number l) names ∙ ap (λ (d : Option Bool). found ++ with_relation number d (relations_from entries (number + 1) (drop number relation_names))) (sym is)

pub none_bad : first_bad_shape [] ≡ None
unfolding first_bad_shape
none_bad = refl

pub relation_declared : (entries : List Entry) (found more : List RoleShape) (number : ℕ) (with_domain : Bool) → 0 < number → number ≤ 8 → Some with_domain ≡ option_and_then with_domain_of (value_of entries (get_or relation_names (number - 1) []))
    → more ≡ found ++ shape number with_domain ∷ [] → found ++ relations_from entries number (drop (number - 1) relation_names) ≡ relations_of entries
    → more ++ relations_from entries (number + 1) (drop (number + 1 - 1) relation_names) ≡ relations_of entries
relation_declared entries found more number with_domain some few is pushed so_far =
    let places : number + 1 - 1 ≡ number = omega arith in
    rw (pushed, places, append_assoc found (shape number with_domain ∷ []) (relations_from entries (number + 1) (drop number relation_names))) (sym (relation_further entries found number (Some with_domain) some few is) ∙ so_far)

pub relation_none : (entries : List Entry) (found more : List RoleShape) (number : ℕ) → 0 < number → number ≤ 8 → None ≡ option_and_then with_domain_of (value_of entries (get_or relation_names (number - 1) []))
    → more ≡ found → found ++ relations_from entries number (drop (number - 1) relation_names) ≡ relations_of entries
    → more ++ relations_from entries (number + 1) (drop (number + 1 - 1) relation_names) ≡ relations_of entries
relation_none entries found more number some few is pushed so_far =
    let places : number + 1 - 1 ≡ number = omega arith in
    rw (pushed, places) (sym (relation_further entries found number None some few is) ∙ so_far)
