-- Entries of a map from users to roles, as groups.
use Rattle.std.proofs.Common.{◌≡◌, ◌≢◌, ◌⊎◌, inl, inr, ◌<◌, ◌+◌, ℕ, zero, suc, Bool, true, false, cond, List, [], ◌∷◌, Option, None, Some, length, map, get_or, refl, sym, ap, subst, ◌∙◌, arith}
use Rattle.std.specs.Prelude.{IfNone, IfSome, position}
use Rattle.std.specs.List.{AllPairs, IsDistinct, position_from}
use Rattle.std.specs.Map.{keys_of, lookup}
use Rattle.std.specs.Option.{option_map_or}
use Rattle.std.specs.Str.{bytes_eq}
use Rattle.std.proofs.lemmas.Bool.{cases_order, false≢true}
use Rattle.std.proofs.lemmas.Iterator.Adapters.{position_from-zero}
use Rattle.std.proofs.lemmas.Map.Made.{AllPairs-from_IsDistinct}
use Rattle.std.proofs.lemmas.Slice.Eq.{bytes_eq-Decides}
use Rattle.std.proofs.lemmas.List.{get_or-map, length-map}
use Rattle.role_graph.specs.Groups.{Group}
use Rattle.role_graph.specs.Helps.Kept.{AreKept, group_of, roles_under, users_of}
use Rattle.role_graph.specs.Helps.Walks.{no_group}
use Rattle.role_graph.specs.Helps.UserRoles.{Texts}

abbrev pub Entry : Type 0
Entry = List ℕ × Texts

-- the place of the user's group
record PlaceOf (user : List ℕ) (groups : List Group) (start at : ℕ) : Type 0 where
  place : ℕ
  within : place < length groups
  counted : at ≡ start + place
  user_is : (get_or groups place no_group).user ≡ user

seek : (user : List ℕ) (entries : List Entry) (start at : ℕ) → position_from (bytes_eq user) start (keys_of entries) ≡ Some at → PlaceOf user (map group_of entries) start at
seek user [] start at none = absurd cc
seek user (entry ∷ entries) start at found = by (bytes_eq user entry.0) refl found (seek user entries (start + 1) at)
  where
    by : (test : Bool) → bytes_eq user entry.0 ≡ test → cond test (Some start) (position_from (bytes_eq user) (start + 1) (keys_of entries)) ≡ Some at → (position_from (bytes_eq user) (start + 1) (keys_of entries) ≡ Some at → PlaceOf user (map group_of entries) (start + 1) at) → PlaceOf user (map group_of (entry ∷ entries)) start at
    by true is here more = record {
      place = 0;
      within = omega arith;
      counted = let same : start ≡ at = cc in omega arith;
      user_is = sym ((bytes_eq-Decides user entry.0).0 is);
    }
    by false is rest more =
        let behind = more rest in
        record { place = suc behind.place; within = omega (arith, behind.within); counted = omega (arith, behind.counted); user_is = behind.user_is }

seek_none : (user : List ℕ) (entries : List Entry) (start : ℕ) → position_from (bytes_eq user) start (keys_of entries) ≡ None → (at : ℕ) → at < length (map group_of entries) → (get_or (map group_of entries) at no_group).user ≡ user → ⊥
seek_none user [] start none at within same = omega arith
seek_none user (entry ∷ entries) start none at within same = by (bytes_eq user entry.0) refl none (seek_none user entries (start + 1)) at within same
  where
    by : (test : Bool) → bytes_eq user entry.0 ≡ test → cond test (Some start) (position_from (bytes_eq user) (start + 1) (keys_of entries)) ≡ None → (position_from (bytes_eq user) (start + 1) (keys_of entries) ≡ None → (k : ℕ) → k < length (map group_of entries) → (get_or (map group_of entries) k no_group).user ≡ user → ⊥) → (at : ℕ) → at < length (map group_of (entry ∷ entries)) → (get_or (map group_of (entry ∷ entries)) at no_group).user ≡ user → ⊥
    by true is found more at within same = cc
    by false is rest more zero within same = false≢true (sym is ∙ (bytes_eq-Decides user entry.0).1 (sym same))
    by false is rest more (suc at) within same = more rest at (omega arith) same

-- users at two places differ
one_place : (groups : List Group) → AreKept groups → (at other : ℕ) → at < length groups → other < length groups → (get_or groups at no_group).user ≡ (get_or groups other no_group).user → at ≡ other
one_place groups kept at other within inside same = by (cases_order at other)
  where
    pairs : AllPairs (λ x y. x ≢ y) (users_of groups)
    pairs = AllPairs-from_IsDistinct bytes_eq-Decides (users_of groups) kept.once

    user_at : (k : ℕ) → k < length groups → get_or (users_of groups) k [] ≡ (get_or groups k no_group).user
    user_at k less = get_or-map (λ (group : Group). group.user) groups k no_group [] less

    apart : (i j : ℕ) → i < j → j < length groups → (get_or groups i no_group).user ≡ (get_or groups j no_group).user → ⊥
    apart i j less low equal = pairs i j [] less (simp length-map (omega arith)) (user_at i (omega arith) ∙ equal ∙ sym (user_at j low))

    by : (at ≡ other) ⊎ ((at < other) ⊎ (other < at)) → at ≡ other
    by (inl e) = e
    by (inr (inl less)) = absurd (apart at other less inside same)
    by (inr (inr more)) = absurd (apart other at more within (sym same))

found_in : (user : List ℕ) (entries : List Entry) (result : Option ℕ) → AreKept (map group_of entries) → result ≡ position (bytes_eq user) (keys_of entries) → IfSome result (λ at. (at < length (map group_of entries)) × ((get_or (map group_of entries) at no_group).user ≡ user) × ((other : ℕ) → other < length (map group_of entries) → (get_or (map group_of entries) other no_group).user ≡ user → other ≡ at))
found_in user entries None kept is = tt
found_in user entries (Some at) kept is =
    let place : PlaceOf user (map group_of entries) 0 at = seek user entries 0 at (sym (is ∙ position_from-zero (bytes_eq user) (keys_of entries))) in
    let same : at ≡ place.place = omega (arith, place.counted) in (
      omega (arith, same, place.within),
      ap (λ (k : ℕ). (get_or (map group_of entries) k no_group).user) same ∙ place.user_is,
      λ other within found. one_place (map group_of entries) kept other place.place within place.within (found ∙ sym place.user_is) ∙ sym same,
    )

nowhere_in : (user : List ℕ) (entries : List Entry) (result : Option ℕ) → result ≡ position (bytes_eq user) (keys_of entries) → IfNone result ((at : ℕ) → at < length (map group_of entries) → (get_or (map group_of entries) at no_group).user ≡ user → ⊥)
nowhere_in user entries (Some at) is = tt
nowhere_in user entries None is = seek_none user entries 0 (sym (is ∙ position_from-zero (bytes_eq user) (keys_of entries)))

pub found_at : (user : List ℕ) (entries : List Entry) (groups : List Group) (result : Option ℕ) → map group_of entries ≡ groups → AreKept (map group_of entries) → result ≡ position (bytes_eq user) (keys_of entries) → IfSome result (λ at. (at < length groups) × ((get_or groups at no_group).user ≡ user) × ((other : ℕ) → other < length groups → (get_or groups other no_group).user ≡ user → other ≡ at))
found_at user entries groups result same kept is =
    subst (λ (all : List Group). IfSome result (λ at. (at < length all) × ((get_or all at no_group).user ≡ user) × ((other : ℕ) → other < length all → (get_or all other no_group).user ≡ user → other ≡ at))) same (found_in user entries result kept is)

pub found_nowhere : (user : List ℕ) (entries : List Entry) (groups : List Group) (result : Option ℕ) → map group_of entries ≡ groups → result ≡ position (bytes_eq user) (keys_of entries) → IfNone result ((at : ℕ) → at < length groups → (get_or groups at no_group).user ≡ user → ⊥)
found_nowhere user entries groups result same is =
    subst (λ (all : List Group). IfNone result ((at : ℕ) → at < length all → (get_or all at no_group).user ≡ user → ⊥)) same (nowhere_in user entries result is)

pub kept_none : AreKept []
unfolding IsDistinct
kept_none = record { once = tt; some = λ k d none. absurd (omega arith) }

pub lookup_roles : (user : List ℕ) (entries : List Entry) → roles_under user (map group_of entries) ≡ option_map_or (λ (roles : Texts). roles.items) (lookup (bytes_eq user) entries) []
lookup_roles user [] = refl
lookup_roles user (entry ∷ entries) = by (bytes_eq user entry.0) (lookup_roles user entries)
  where
    by : (test : Bool) → roles_under user (map group_of entries) ≡ option_map_or (λ (roles : Texts). roles.items) (lookup (bytes_eq user) entries) [] → cond test entry.1.items (roles_under user (map group_of entries)) ≡ option_map_or (λ (roles : Texts). roles.items) (cond test (Some entry.1) (lookup (bytes_eq user) entries)) []
    by true rest = refl
    by false rest = rest

pub roles_found : (user : List ℕ) (entries : List Entry) (roles : Texts) → lookup (bytes_eq user) entries ≡ Some roles → roles.items ≡ roles_under user (map group_of entries)
roles_found user entries roles found =
    sym (lookup_roles user entries ∙ ap (λ (o : Option Texts). option_map_or (λ (r : Texts). r.items) o []) found)

pub roles_nowhere : (user : List ℕ) (entries : List Entry) → lookup (bytes_eq user) entries ≡ None → [] ≡ roles_under user (map group_of entries)
roles_nowhere user entries none =
    sym (lookup_roles user entries ∙ ap (λ (o : Option Texts). option_map_or (λ (r : Texts). r.items) o []) none)
