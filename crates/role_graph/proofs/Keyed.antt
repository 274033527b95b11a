-- Maps by texts: what is found at a text, and after a change.
use Rattle.std.proofs.Common.{◌≡◌, ◌⊎◌, inl, inr, ℕ, zero, suc, Bool, true, false, cond, List, [], ◌∷◌, Option, None, Some, length, get_or, slice_get, ◌<◌, ◌+◌, refl, sym, ap, subst, ◌∙◌, arith}
use Rattle.std.specs.Prelude.{IfNone, IfSome, IsSome, is_some, position}
use Rattle.std.specs.List.{Contains, position_from}
use Rattle.std.specs.Map.{AreApart, IsKeyTest, KeepsOthers, keys_of, lookup}
use Rattle.std.specs.Str.{bytes_eq}
use Rattle.std.proofs.lemmas.Bool.{cases_Bool, false≢true}
use Rattle.std.proofs.lemmas.Cmp.{nat_list_eq_equiv}
use Rattle.std.proofs.lemmas.Iterator.Adapters.{position_from-zero}
use Rattle.std.proofs.lemmas.Map.Views.{IsSome-lookup_from_Contains}
use Rattle.std.proofs.lemmas.Option.{same_Some}
use Rattle.std.proofs.lemmas.Slice.Eq.{bytes_eq-Decides}
use Rattle.role_graph.specs.Keyed.{found}
use Rattle.role_graph.proofs.PutLemmas.{same_text}

key_test : (text : List ℕ) → IsKeyTest bytes_eq (bytes_eq text)
key_test text x y here = ap (λ (t : List ℕ). bytes_eq t y) (same_text text x here)

tests_apart : (name text : List ℕ) → bytes_eq name text ≡ false → AreApart (bytes_eq text) (bytes_eq name)
tests_apart name text differ key here = by (cases_Bool (bytes_eq name key))
  where
    by : (bytes_eq name key ≡ true) ⊎ (bytes_eq name key ≡ false) → bytes_eq name key ≡ false
    by (inr other) = other
    by (inl equal) = absurd (false≢true (sym differ ∙ (bytes_eq-Decides name text).1 (same_text name key equal ∙ sym (same_text text key here))))

-- what is found after the value of a text has changed
found_after : {X : Type 0} (text name : List ℕ) (old new : List (List ℕ × X)) (after : Option X) → KeepsOthers bytes_eq (bytes_eq text) old new → lookup (bytes_eq text) new ≡ after → found new name ≡ cond (bytes_eq name text) after (found old name)
unfolding KeepsOthers
found_after {X} text name old new after keeps is = by (bytes_eq name text) refl
  where
    by : (test : Bool) → bytes_eq name text ≡ test → lookup (bytes_eq name) new ≡ cond test after (found old name)
    by true same = subst (λ (t : List ℕ). lookup (bytes_eq t) new ≡ after) (sym (same_text name text same)) is
    by false differ = keeps (bytes_eq name) (key_test name) (tests_apart name text differ)

-- what a map answers at a text, of those that are seen
pub seen_at : {X : Type 0} (text : List ℕ) (entries : List (List ℕ × X)) (seen : List (List ℕ × X)) (there : Option X) → entries ≡ seen → there ≡ lookup (bytes_eq text) entries → there ≡ found seen text
seen_at {X} text entries seen there view is = is ∙ ap (λ (l : List (List ℕ × X)). found l text) view

-- and after a change
pub seen_after : {X : Type 0} (text key name : List ℕ) (old new : List (List ℕ × X)) (seen : List (List ℕ × X)) (after : Option X) → old ≡ seen → key ≡ text → KeepsOthers bytes_eq (bytes_eq key) old new → lookup (bytes_eq key) new ≡ after → found new name ≡ cond (bytes_eq name text) after (found seen name)
seen_after {X} text key name old new seen after view same keeps is =
    found_after key name old new after keeps is
    ∙ ap (λ (t : List ℕ). cond (bytes_eq name t) after (found old name)) same
    ∙ ap (λ (l : List (List ℕ × X)). cond (bytes_eq name text) after (found l name)) view

-- at the text itself, and at another
pub found_there : {X : Type 0} (text : List ℕ) (new : List (List ℕ × X)) (after : Option X) → lookup (bytes_eq text) new ≡ after → found new text ≡ after
found_there text new after is = is

pub found_other : {X : Type 0} (text name : List ℕ) (old new : List (List ℕ × X)) → KeepsOthers bytes_eq (bytes_eq text) old new → bytes_eq name text ≡ false → found new name ≡ found old name
unfolding KeepsOthers
found_other text name old new keeps differ = keeps (bytes_eq name) (key_test name) (tests_apart name text differ)

-- the text at a place
pub text_there : {X : Type 0} (entries : List (List ℕ × X)) (at : ℕ) (key : List ℕ) (value : X) → slice_get entries at ≡ Some (key, value) → key ≡ get_or (keys_of entries) at []
text_there [] at key value is = absurd cc
text_there {X} (entry ∷ entries) zero key value is = ap (λ (one : List ℕ × X). one.0) (same_Some (key, value) entry (sym is))
text_there (entry ∷ entries) (suc at) key value is = text_there entries at key value is

-- the place of a text among the keys
record PlaceAt (text : List ℕ) (texts : List (List ℕ)) (start at : ℕ) : Type 0 where
  place : ℕ
  within : place < length texts
  counted : at ≡ start + place
  is : get_or texts place [] ≡ text

place_from : {X : Type 0} (text : List ℕ) (entries : List (List ℕ × X)) (start at : ℕ) → position_from (bytes_eq text) start (keys_of entries) ≡ Some at → PlaceAt text (keys_of entries) start at
place_from text [] start at none = absurd cc
place_from {X} text (entry ∷ entries) start at found = by (bytes_eq text entry.0) refl found (place_from text entries (start + 1) at)
  where
    by : (test : Bool) → bytes_eq text entry.0 ≡ test → cond test (Some start) (position_from (bytes_eq text) (start + 1) (keys_of entries)) ≡ Some at → (position_from (bytes_eq text) (start + 1) (keys_of entries) ≡ Some at → PlaceAt text (keys_of entries) (start + 1) at) → PlaceAt text (keys_of (entry ∷ entries)) start at
    by true same here more = record {
      place = 0;
      within = omega arith;
      counted = let e : start ≡ at = cc in omega arith;
      is = sym (same_text text entry.0 same);
    }
    by false differ rest more =
        let behind = more rest in
        record { place = suc behind.place; within = omega (arith, behind.within); counted = omega (arith, behind.counted); is = behind.is }

pub place_there : {X : Type 0} (text : List ℕ) (entries : List (List ℕ × X)) (result : Option ℕ) → result ≡ position (bytes_eq text) (keys_of entries) → IfSome result (λ at. (at < length (keys_of entries)) × (get_or (keys_of entries) at [] ≡ text))
place_there text entries None is = tt
place_there text entries (Some at) is =
    let found = place_from text entries 0 at (sym (is ∙ position_from-zero (bytes_eq text) (keys_of entries))) in
    let same : found.place ≡ at = omega (arith, found.counted) in (
      omega (arith, same, found.within),
      ap (λ (k : ℕ). get_or (keys_of entries) k []) (sym same) ∙ found.is,
    )

-- a text that is no key
pub place_nowhere : {X : Type 0} (text : List ℕ) (entries : List (List ℕ × X)) (result : Option ℕ) → is_some result ≡ is_some (lookup (bytes_eq text) entries) → IfNone result (Contains (keys_of entries) text → ⊥)
place_nowhere text entries (Some at) is = tt
place_nowhere {X} text entries None is = λ stands.
    let there : IsSome (lookup (bytes_eq text) entries) = IsSome-lookup_from_Contains nat_list_eq_equiv text entries stands in
    false≢true (is ∙ there)
