-- How often roles are counted.
use Rattle.std.proofs.Common.{◌≡◌, ◌⊎◌, inl, inr, ℕ, ◌+◌, ◌<◌, ◌≤◌, Bool, true, false, cond, List, [], ◌∷◌, ◌++◌, length, map, take, drop, get_or, Option, None, Some, append-nil, refl, sym, ap, subst, ◌∙◌, arith, take-append-drop}
use Rattle.std.specs.Prelude.{is_some, unwrap_or}
use Rattle.std.specs.List.{count_by}
use Rattle.std.specs.Map.{keys_of}
use Rattle.std.specs.Str.{bytes_eq}
use Rattle.perm_base.specs.LineEnds.{has_line_end}
use Rattle.std.proofs.lemmas.List.{drop_more, length-map, map-append}
use Rattle.std.proofs.lemmas.List.Sums.{sum_by-append, sum_by-cons}
use Rattle.std.proofs.lemmas.Slice.Eq.{bytes_eq-Decides}
use Rattle.indexmap.specs.IndexMap.{IndexMap, get, insert_entry}
use Rattle.indexmap.proofs.CallerLemmas.{insert_entry-new, keys-insert_entry-present}
use Rattle.role_graph.specs.Helps.Roles.{Counted, HasNames, HasNoZero, count_of, number_in}
use Rattle.role_graph.specs.Keyed.{found}
use Rattle.role_graph.proofs.EditLemmas.{once}

-- one role more is counted
pub added_one : (role name : List ℕ) (count : ℕ) (start : Counted) (new : List (List ℕ × ℕ)) → count ≡ count_of start role + 1 → ((q : List ℕ) → found new q ≡ cond (bytes_eq q role) (Some count) (found start.entries q)) → number_in new name ≡ count_of start name + once (bytes_eq name role)
added_one role name count start new more updates = ap (λ (o : Option ℕ). unwrap_or o 0) (updates name) ∙ by (bytes_eq name role) refl
  where
    by : (test : Bool) → bytes_eq name role ≡ test → unwrap_or (cond test (Some count) (found start.entries name)) 0 ≡ count_of start name + once test
    by true is = more ∙ ap (λ (r : List ℕ). count_of start r + 1) (sym ((bytes_eq-Decides name role).0 is))
    by false is = omega arith

-- one role less is counted
pub taken_one : (role name : List ℕ) (left : Option ℕ) (start : Counted) (new : List (List ℕ × ℕ)) → count_of start role ≡ unwrap_or left 0 + 1 → ((q : List ℕ) → found new q ≡ cond (bytes_eq q role) left (found start.entries q)) → number_in new name + once (bytes_eq name role) ≡ count_of start name
taken_one role name left start new less updates = ap (λ (o : Option ℕ). unwrap_or o 0 + once (bytes_eq name role)) (updates name) ∙ by (bytes_eq name role) refl
  where
    by : (test : Bool) → bytes_eq name role ≡ test → unwrap_or (cond test left (found start.entries name)) 0 + once test ≡ count_of start name
    by true is = sym less ∙ ap (count_of start) (sym ((bytes_eq-Decides name role).0 is))
    by false is = omega arith

-- what is found at a role that is counted
pub number_found : (entries : List (List ℕ × ℕ)) (role : List ℕ) (there : Option ℕ) → there ≡ found entries role → unwrap_or there 0 ≡ number_in entries role
number_found entries role there is = ap (λ (o : Option ℕ). unwrap_or o 0) is

-- ---- the places of roles

-- a key that is put in keeps its place, or gets the last one
pub more_places : {S : Type 0} (map : IndexMap (List ℕ) ℕ S) (role : List ℕ) (count : ℕ) (new : List (List ℕ × ℕ)) → new ≡ insert_entry bytes_eq map.entries role count → (more : List (List ℕ)) × (keys_of new ≡ keys_of map.entries ++ more)
more_places map role count new is = by (get bytes_eq map role) refl
  where
    by : (there : Option ℕ) → get bytes_eq map role ≡ there → (more : List (List ℕ)) × (keys_of new ≡ keys_of map.entries ++ more)
    by None none = (
      role ∷ [],
      ap (λ (l : List (List ℕ × ℕ)). keys_of l) (is ∙ insert_entry-new bytes_eq map role count none) ∙ map-append (λ (e : List ℕ × ℕ). e.0) map.entries ((role, count) ∷ []),
    )
    by (Some old) there = (
      [],
      ap keys_of is ∙ keys-insert_entry-present bytes_eq map role count (ap (λ (o : Option ℕ). is_some o) there) ∙ sym (append-nil (keys_of map.entries)),
    )

-- one that is taken out leaves fewer
pub fewer_places : (old new : List (List ℕ × ℕ)) (gone : Option ℕ) → unwrap_or gone 0 ≡ 1 → length new + cond (is_some gone) 1 0 ≡ length old → length (keys_of new) < length (keys_of old)
fewer_places old new None none less = absurd (omega (arith, none))
fewer_places old new (Some count) one less = omega (arith, less, length-map new (λ (e : List ℕ × ℕ). e.0), length-map old (λ (e : List ℕ × ℕ). e.0))

-- roles that were taken out one after the other
pub places_on : (first mid last : List (List ℕ)) → (mid ≡ first) ⊎ (length mid < length first) → (last ≡ mid) ⊎ (length last < length mid) → (last ≡ first) ⊎ (length last < length first)
places_on first mid last (inl one) (inl two) = inl (two ∙ one)
places_on first mid last (inl one) (inr less) = inr (omega (arith, ap (λ (l : List (List ℕ)). length l) one))
places_on first mid last (inr less) (inl two) = inr (omega (arith, ap (λ (l : List (List ℕ)). length l) two))
places_on first mid last (inr less) (inr lesser) = inr (omega arith)

-- a role that is still to be taken out is counted
pub next_counted : (roles : List (List ℕ)) (at : ℕ) (one : List ℕ) (now start : List ℕ → ℕ) → at < length roles → one ≡ get_or roles at one → ((r : List ℕ) → now r + count_by (bytes_eq r) (take at roles) ≡ start r) → ((r : List ℕ) → count_by (bytes_eq r) roles ≤ start r) → 1 ≤ now one
next_counted roles at one now start within is left stand =
    let both : count_by (bytes_eq one) (take at roles ++ drop at roles) ≡ count_by (bytes_eq one) (take at roles) + count_by (bytes_eq one) (drop at roles) = sum_by-append (λ (r : List ℕ). once (bytes_eq one r)) (take at roles) (drop at roles) in
    let whole : count_by (bytes_eq one) roles ≡ count_by (bytes_eq one) (take at roles) + count_by (bytes_eq one) (drop at roles) = ap (count_by (bytes_eq one)) (sym (take-append-drop at roles)) ∙ both in
    let first : count_by (bytes_eq one) (drop at roles) ≡ once (bytes_eq one one) + count_by (bytes_eq one) (drop (at + 1) roles) =
    ap (count_by (bytes_eq one)) (drop_more roles at one within ∙ ap (λ (r : List ℕ). r ∷ drop (at + 1) roles) (sym is)) ∙ sum_by-cons (λ (r : List ℕ). once (bytes_eq one r)) one (drop (at + 1) roles) in
    let here : once (bytes_eq one one) ≡ 1 = ap once ((bytes_eq-Decides one one).1 refl) in
    let now_is : now one + count_by (bytes_eq one) (take at roles) ≡ start one = left one in
    let enough : count_by (bytes_eq one) roles ≤ start one = stand one in
    omega (arith, whole, first, here, now_is, enough)

-- ---- what is kept of all roles

-- no role is counted more than before, so that all are names still
pub still_names : (role : List ℕ) (left : Option ℕ) (start new : List (List ℕ × ℕ)) → unwrap_or left 0 ≤ number_in start role → ((q : List ℕ) → found new q ≡ cond (bytes_eq q role) left (found start q)) → HasNames start → HasNames new
still_names role left start new less updates names = λ name some. names name (by name some (bytes_eq name role) refl)
  where
    by : (name : List ℕ) → 1 ≤ number_in new name → (test : Bool) → bytes_eq name role ≡ test → 1 ≤ number_in start name
    by name some true is =
        let here : number_in new name ≡ unwrap_or left 0 = ap (λ (o : Option ℕ). unwrap_or o 0) (updates name ∙ ap (λ (b : Bool). cond b left (found start name)) is) in
        let same : number_in start name ≡ number_in start role = ap (number_in start) ((bytes_eq-Decides name role).0 is) in
        omega (arith, here, same, less)
    by name some false is =
        let here : number_in new name ≡ number_in start name = ap (λ (o : Option ℕ). unwrap_or o 0) (updates name ∙ ap (λ (b : Bool). cond b left (found start name)) is) in
        omega (arith, here)

pub still_some : (role : List ℕ) (left : Option ℕ) (start new : List (List ℕ × ℕ)) → (left ≡ Some 0 → ⊥) → ((q : List ℕ) → found new q ≡ cond (bytes_eq q role) left (found start q)) → HasNoZero start → HasNoZero new
still_some role left start new some updates none = λ name zero. by name (sym (updates name) ∙ zero) (bytes_eq name role) refl
  where
    by : (name : List ℕ) → cond (bytes_eq name role) left (found start name) ≡ Some 0 → (test : Bool) → bytes_eq name role ≡ test → ⊥
    by name zero true is = some (sym (ap (λ (b : Bool). cond b left (found start name)) is) ∙ zero)
    by name zero false is = none name (sym (ap (λ (b : Bool). cond b left (found start name)) is) ∙ zero)

-- one role more is a name
pub more_names : (role : List ℕ) (count : ℕ) (start new : List (List ℕ × ℕ)) → has_line_end role ≡ false → ((q : List ℕ) → found new q ≡ cond (bytes_eq q role) (Some count) (found start q)) → HasNames start → HasNames new
more_names role count start new is_name updates names = λ name some. by name some (bytes_eq name role) refl
  where
    by : (name : List ℕ) → 1 ≤ number_in new name → (test : Bool) → bytes_eq name role ≡ test → has_line_end name ≡ false
    by name some true is = subst (λ (n : List ℕ). has_line_end n ≡ false) (sym ((bytes_eq-Decides name role).0 is)) is_name
    by name some false is =
        names name (let here : number_in new name ≡ number_in start name = ap (λ (o : Option ℕ). unwrap_or o 0) (updates name ∙ ap (λ (b : Bool). cond b (Some count) (found start name)) is) in omega (arith, here))
