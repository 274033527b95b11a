-- Slots that are copied hash by hash.
use Rattle.std.proofs.Common.{◌≡◌, ℕ, ◌+◌, ◌<◌, ◌≤◌, Bool, true, false, cond, if◌then◌else◌, List, [], ◌∷◌, ◌++◌, map, length, take, drop, get_or, slice_get, Option, Some, None, refl, sym, ap, subst, ◌∙◌}
use Rattle.std.specs.Prelude.{nat_eq}
use Rattle.std.specs.List.{IsDistinct}
use Rattle.std.specs.Map.{keys_of, lookup}
use Rattle.std.specs.Option.{option_map, option_map_or}
use Rattle.std.proofs.lemmas.Cmp.{nat_eq_equiv}
use Rattle.std.proofs.lemmas.List.{drop_more, map-append, take-append-drop, take_all, take_more}
use Rattle.std.proofs.lemmas.Map.Made.{lookup-map_values}
use Rattle.std.proofs.lemmas.Option.{get_or_from_slice_get}
use Rattle.indexmap.specs.IndexMap.{insert_entry}
use Rattle.indexmap.proofs.MapLemmas.{absent_before}
use Rattle.policy_index.specs.Lists.{Listed, Lists, slots_at}

-- each hash with its slots
abbrev pub slots_only : Lists → List (ℕ × List ℕ)
slots_only lists = map (λ (e : ℕ × Listed). (e.0, e.1.slots)) lists

-- so it is seen what a hash has
by_slots : (lists : Lists) (hash : ℕ) → slots_at lists hash ≡ option_map_or (λ (l : List ℕ). l) (lookup (nat_eq hash) (slots_only lists)) []
by_slots lists hash = by (lookup (nat_eq hash) lists) ∙ sym (ap (λ (o : Option (List ℕ)). option_map_or (λ (l : List ℕ). l) o []) (lookup-map_values (λ (l : Listed). l.slots) (nat_eq hash) lists))
  where
    by : (o : Option Listed) → option_map_or (λ (l : Listed). l.slots) o [] ≡ option_map_or (λ (l : List ℕ). l) (option_map (λ (l : Listed). l.slots) o) []
    by None = refl
    by (Some l) = refl

same_slots : (old new : Lists) (hash : ℕ) → slots_only new ≡ slots_only old → slots_at new hash ≡ slots_at old hash
same_slots old new hash same = by_slots new hash ∙ ap (λ (l : List (ℕ × List ℕ)). option_map_or (λ (p : List ℕ). p) (lookup (nat_eq hash) l) []) same ∙ sym (by_slots old hash)

-- a hash that is not there goes last
insert_last : (es : Lists) (hash : ℕ) (list : Listed) → lookup (nat_eq hash) es ≡ None → insert_entry nat_eq es hash list ≡ es ++ (hash, list) ∷ []
insert_last [] hash list none = refl
insert_last (e ∷ es) hash list none = by (nat_eq hash e.0) none (λ is. insert_last es hash list is)
  where
    by : (b : Bool) → cond b (Some e.1) (lookup (nat_eq hash) es) ≡ None → (lookup (nat_eq hash) es ≡ None → insert_entry nat_eq es hash list ≡ es ++ (hash, list) ∷ [])
        → (if b then (e.0, list) ∷ es else e ∷ insert_entry nat_eq es hash list) ≡ e ∷ (es ++ (hash, list) ∷ [])
    by true is rest = absurd cc
    by false is rest = ap (λ (l : Lists). e ∷ l) (rest is)

-- nor is it in a copy of those slots
none_copied : (old new : Lists) (hash : ℕ) → slots_only new ≡ slots_only old → lookup (nat_eq hash) old ≡ None → lookup (nat_eq hash) new ≡ None
none_copied old new hash same none =
    by (lookup (nat_eq hash) new)
    (sym (lookup-map_values (λ (l : Listed). l.slots) (nat_eq hash) new) ∙ ap (lookup (nat_eq hash)) same ∙ lookup-map_values (λ (l : Listed). l.slots) (nat_eq hash) old ∙ ap (option_map (λ (l : Listed). l.slots)) none)
  where
    by : (o : Option Listed) → option_map (λ (l : Listed). l.slots) o ≡ None → o ≡ None
    by None is = refl
    by (Some l) is = absurd cc

-- the next hash is put behind those before it
pub list_copied : (lists old new : Lists) (at hash : ℕ) (list copy : Listed) → IsDistinct nat_eq (keys_of lists) → at < length lists → slice_get lists at ≡ Some (hash, list) → copy.slots ≡ list.slots
    → slots_only old ≡ slots_only (take at lists) → new ≡ insert_entry nat_eq old hash copy → slots_only new ≡ slots_only (take (at + 1) lists)
list_copied lists old new at hash list copy distinct within here same so_far inserted =
    ap slots_only (inserted ∙ insert_last old hash copy (none_copied (take at lists) old hash so_far absent))
    ∙ map-append (λ (e : ℕ × Listed). (e.0, e.1.slots)) old ((hash, copy) ∷ [])
    ∙ ap (λ (l : List (ℕ × List ℕ)). l ++ (hash, copy.slots) ∷ []) so_far
    ∙ ap (λ (p : List ℕ). slots_only (take at lists) ++ (hash, p) ∷ []) same
    ∙ sym (map-append (λ (e : ℕ × Listed). (e.0, e.1.slots)) (take at lists) (entry ∷ []))
    ∙ sym (ap slots_only (take_more lists at entry within ∙ ap (λ (e : ℕ × Listed). take at lists ++ e ∷ []) there))
  where
    entry : ℕ × Listed
    entry = (hash, list)

    there : get_or lists at entry ≡ entry
    there = get_or_from_slice_get lists at entry entry here

    parts : lists ≡ take at lists ++ entry ∷ drop (at + 1) lists
    parts = sym (take-append-drop at lists) ∙ ap (λ (l : Lists). take at lists ++ l) (drop_more lists at entry within ∙ ap (λ (e : ℕ × Listed). e ∷ drop (at + 1) lists) there)

    absent : lookup (nat_eq hash) (take at lists) ≡ None
    absent = absent_before nat_eq_equiv (take at lists) (drop (at + 1) lists) entry (subst (λ (l : Lists). IsDistinct nat_eq (keys_of l)) parts distinct)

-- when all are, the copy has the slots of each
pub all_copied : (lists new : Lists) (at hash : ℕ) → length lists ≤ at → slots_only new ≡ slots_only (take at lists) → slots_at new hash ≡ slots_at lists hash
all_copied lists new at hash few so_far = same_slots lists new hash (so_far ∙ ap slots_only (take_all at lists few))
