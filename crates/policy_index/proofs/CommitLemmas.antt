-- Of which rows an index is one after a change of p.
use Rattle.std.proofs.Common.{◌≡◌, ℕ, zero, suc, ◌+◌, ◌-◌, ◌<◌, ◌≤◌, ◌^◌, ◌==◌, ◌||◌, Bool, true, false, not, cond, if◌then◌else◌, List, [], ◌∷◌, ◌++◌, length, length-append, map, set, take, get_or, position, slice_get, Some, refl, sym, ap, subst, ◌∙◌, arith, true≢false}
use Rattle.std.specs.Prelude.{nat_eq}
use Rattle.std.specs.List.{IsDistinct, count_by, swap_remove}
use Rattle.std.proofs.lemmas.Bool.{and_parts, eq-eqb, eqb-true}
use Rattle.std.proofs.lemmas.List.{get_or-map, get_or-set_other, get_or-set_same, get_or_default, length-map, length-set, length-take-le, map-append, map-set, same_lists, take-map}
use Rattle.std.proofs.lemmas.List.Elements.{All-head, All-push, All-tail}
use Rattle.std.proofs.lemmas.List.Sorted.{All-permutation, IsPermutation-swap_remove}
use Rattle.std.proofs.lemmas.List.Sums.{sum_by-cons}
use Rattle.policy_table.specs.Changes.{in_place}
use Rattle.policy_table.specs.Tables.{Fields, same, stands}
use Rattle.policy_table.specs.declared.change.Change.{Change}
use Rattle.policy_table.proofs.CallerLemmas.{HasSlot, found_slot, same-Decides, same_slot}
use Rattle.policy_index.specs.Hashes.{mark_of, marks_of}
use Rattle.policy_index.specs.Helps.Kept.{IsIndex, one_if}
use Rattle.policy_index.specs.Indexed.{Indexed, IsIndexOf, IsReadyFor, all_fit, fits_key, puts, puts_hash, takes_slot}
use Rattle.policy_index.specs.Keys.{HaveColumns, KeyParts, is_below}
use Rattle.policy_index.specs.Lists.{Lists, room_at, slots_at}
use Rattle.policy_index.specs.declared.mark.Mark.{Mark}

-- ---- what is kept of the rows

pub marks_push : (key : KeyParts) (by_slot : List Fields) (rule : Fields) → marks_of key (by_slot ++ rule ∷ []) ≡ marks_of key by_slot ++ mark_of key rule ∷ []
marks_push key by_slot rule = map-append (mark_of key) by_slot (rule ∷ [])

pub marks_swap : (key : KeyParts) (by_slot : List Fields) (slot : ℕ) (d : Mark) → slot < length by_slot → marks_of key (swap_remove by_slot slot []) ≡ swap_remove (marks_of key by_slot) slot d
marks_swap key by_slot slot d within =
    let size : length (marks_of key by_slot) ≡ length by_slot = length-map by_slot (mark_of key) in
    let end : mark_of key (get_or by_slot (length by_slot - 1) []) ≡ get_or (marks_of key by_slot) (length by_slot - 1) d = sym (get_or-map (mark_of key) by_slot (length by_slot - 1) [] d (omega (arith, within))) in
    sym (take-map (mark_of key) (length by_slot - 1) (set by_slot slot (get_or by_slot (length by_slot - 1) [])))
    ∙ ap (take (length by_slot - 1)) (map-set (mark_of key) by_slot slot (get_or by_slot (length by_slot - 1) []) ∙ ap (set (marks_of key by_slot) slot) end)
    ∙ ap (λ (n : ℕ). take (n - 1) (set (marks_of key by_slot) slot (get_or (marks_of key by_slot) (n - 1) d))) (sym size)

-- a new rule in the place of an old one is in the slot of that one
placed : (by_slot : List Fields) → IsDistinct same by_slot → (old new : Fields) (slot : ℕ) → HasSlot old slot by_slot → in_place old new by_slot ≡ set by_slot slot new
placed by_slot once old new slot has =
    same_lists (in_place old new by_slot) (set by_slot slot new) (length-map by_slot put ∙ sym (length-set by_slot slot new)) each
  where
    put : Fields → Fields
    put other = if same old other then new else other

    each : (k : ℕ) (d : Fields) → k < length (in_place old new by_slot) → get_or (in_place old new by_slot) k d ≡ get_or (set by_slot slot new) k d
    each k d within = get_or-map put by_slot k [] d inside ∙ ap (λ (b : Bool). if b then new else get_or by_slot k []) (same_slot by_slot once old slot k has inside) ∙ by (k == slot) refl
      where
        inside : k < length by_slot
        inside = omega (arith, within, length-map by_slot put)

        by : (b : Bool) → (k == slot) ≡ b → (if b then new else get_or by_slot k []) ≡ get_or (set by_slot slot new) k d
        by true is = sym (ap (λ (n : ℕ). get_or (set by_slot slot new) n d) (eqb-true k slot is) ∙ get_or-set_same by_slot slot new d has.within)
        by false is = get_or_default by_slot k [] d inside ∙ sym (get_or-set_other by_slot slot k new d (λ e. true≢false (sym (eq-eqb k slot e) ∙ is)))

pub marks_set : (key : KeyParts) (by_slot : List Fields) → IsDistinct same by_slot → (old new : Fields) (slot : ℕ) → position (same old) by_slot ≡ Some slot → marks_of key (in_place old new by_slot) ≡ set (marks_of key by_slot) slot (mark_of key new)
marks_set key by_slot once old new slot found = ap (map (mark_of key)) (placed by_slot once old new slot (found_slot old slot by_slot found)) ∙ map-set (mark_of key) by_slot slot new

-- ---- the columns of the rows

columns_set : (key : KeyParts) (by_slot : List Fields) (old new : Fields) → is_below (length new) key ≡ true → HaveColumns key by_slot → HaveColumns key (in_place old new by_slot)
columns_set key by_slot old new fit have = λ k d within.
    let inside : k < length by_slot = omega (arith, within, length-map by_slot put) in
    subst (λ (r : Fields). is_below (length r) key ≡ true) (sym (get_or-map put by_slot k d d inside)) (by (get_or by_slot k d) (same old (get_or by_slot k d)) (have k d inside))
  where
    put : Fields → Fields
    put other = if same old other then new else other

    by : (r : Fields) (b : Bool) → is_below (length r) key ≡ true → is_below (length (if b then new else r)) key ≡ true
    by r true here = fit
    by r false here = here

columns_swap : (key : KeyParts) (by_slot : List Fields) (slot : ℕ) → slot < length by_slot → HaveColumns key by_slot → HaveColumns key (swap_remove by_slot slot [])
columns_swap key by_slot slot within have =
    let mine : get_or by_slot slot [] ≡ get_or by_slot slot (get_or by_slot slot []) = get_or_default by_slot slot [] (get_or by_slot slot []) within in
    let moved : swap_remove by_slot slot (get_or by_slot slot []) ≡ swap_remove by_slot slot [] =
    ap (λ (r : Fields). take (length by_slot - 1) (set by_slot slot r)) (get_or_default by_slot (length by_slot - 1) (get_or by_slot slot []) [] (omega (arith, within))) in
    subst (HaveColumns key) moved
    (All-tail (λ (r : Fields). is_below (length r) key ≡ true) (get_or by_slot slot []) (swap_remove by_slot slot (get_or by_slot slot []))
    (All-permutation (λ (r : Fields). is_below (length r) key ≡ true) by_slot (get_or by_slot slot [] ∷ swap_remove by_slot slot (get_or by_slot slot [])) (IsPermutation-swap_remove by_slot slot (get_or by_slot slot []) within mine) have))

-- there is one fewer
shorter : (by_slot : List Fields) (slot : ℕ) → slot < length by_slot → length (swap_remove by_slot slot []) ≤ length by_slot
shorter by_slot slot within =
    omega (arith, within, length-take-le (length by_slot - 1) (set by_slot slot (get_or by_slot (length by_slot - 1) [])) (omega (arith, within, length-set by_slot slot (get_or by_slot (length by_slot - 1) []))), length-set by_slot slot (get_or by_slot (length by_slot - 1) []))

-- ---- a change of p

-- a rule that is put into p has the columns
pub own_fit : (b fit : Bool) → b ≡ true → (not b || fit) ≡ true → fit ≡ true
own_fit true fit own is = is
own_fit false fit own is = absurd (true≢false (sym own))

module _ (old new : Indexed) (by_slot : List Fields) (is : IsIndexOf old by_slot) (key : new.key ≡ old.key) where
  -- the index of other rows, of which the same is kept
  of_rows : (after : List Fields) → length after < 2 ^ 32 → HaveColumns old.key after → new.marks ≡ marks_of old.key after → IsIndexOf new after
  of_rows after few have marks = record {
    few = few;
    columns = subst (λ (k : KeyParts). HaveColumns k after) (sym key) have;
    marks = marks ∙ ap (λ (k : KeyParts). marks_of k after) (sym key);
  }

  pub index_pushed : (rule : Fields) → length old.marks + 1 < 2 ^ 32 → is_below (length rule) old.key ≡ true → new.marks ≡ old.marks ++ mark_of old.key rule ∷ [] → IsIndexOf new (by_slot ++ rule ∷ [])
  index_pushed rule few fit pushed =
      of_rows (by_slot ++ rule ∷ []) (omega (arith, few, ap length is.marks, length-map by_slot (mark_of old.key), length-append by_slot (rule ∷ []))) (All-push (λ (r : Fields). is_below (length r) old.key ≡ true) by_slot rule is.columns fit)
      (pushed ∙ ap (λ (l : List Mark). l ++ mark_of old.key rule ∷ []) is.marks ∙ sym (marks_push old.key by_slot rule))

  pub index_removed : (slot : ℕ) → slot < length by_slot → ((d : Mark) → new.marks ≡ swap_remove old.marks slot d) → IsIndexOf new (swap_remove by_slot slot [])
  index_removed slot within removed =
      let d : Mark = mark_of old.key [] in
      let same_marks : new.marks ≡ marks_of old.key (swap_remove by_slot slot []) = removed d ∙ ap (λ (l : List Mark). swap_remove l slot d) is.marks ∙ sym (marks_swap old.key by_slot slot d within) in
      of_rows (swap_remove by_slot slot []) (omega (arith, is.few, shorter by_slot slot within)) (columns_swap old.key by_slot slot within is.columns) same_marks

  pub index_set : (first second : Fields) (slot : ℕ) → IsDistinct same by_slot → position (same first) by_slot ≡ Some slot → is_below (length second) old.key ≡ true → new.marks ≡ set old.marks slot (mark_of old.key second) → IsIndexOf new (in_place first second by_slot)
  index_set first second slot once found fit changed =
      of_rows (in_place first second by_slot) (subst (λ (n : ℕ). n < 2 ^ 32) (sym (length-map by_slot (λ (other : Fields). if same first other then second else other))) is.few) (columns_set old.key by_slot first second fit is.columns)
      (changed ∙ ap (λ (l : List Mark). set l slot (mark_of old.key second)) is.marks ∙ sym (marks_set old.key by_slot once first second slot found))

-- ---- room for the changes that are left

pub ready_rest : (old new : Indexed) (change : Change) (changes : List Change) → new.key ≡ old.key → IsReadyFor old (change ∷ changes) → length new.marks ≤ length old.marks + one_if (takes_slot change) → old.spare ≤ new.spare + one_if (takes_slot change)
    → ((hash : ℕ) → room_at old.lists hash ≤ room_at new.lists hash + one_if (puts_hash old.key hash change)) → IsReadyFor new changes
ready_rest old new change changes key ready longer spare room = record {
  columns = subst (λ (k : KeyParts). all_fit k changes ≡ true) (sym key) (and_parts (fits_key old.key change) (all_fit old.key changes) ready.columns).1;
  few = omega (arith, ready.few, longer, sum_by-cons (λ (c : Change). cond (takes_slot c) 1 0) change changes);
  spare = omega (arith, ready.spare, spare, sum_by-cons (λ (c : Change). cond (takes_slot c) 1 0) change changes);
  room = λ hash. subst (λ (k : KeyParts). puts k hash changes ≤ room_at new.lists hash) (sym key) (omega (arith, ready.room hash, room hash, sum_by-cons (λ (c : Change). cond (puts_hash old.key hash c) 1 0) change changes));
}

pub ready_same : (old new : Indexed) (changes : List Change) → new.key ≡ old.key → new.marks ≡ old.marks → old.spare ≤ new.spare → ((hash : ℕ) → room_at old.lists hash ≤ room_at new.lists hash) → IsReadyFor old changes → IsReadyFor new changes
ready_same old new changes key marks spare room ready = record {
  columns = subst (λ (k : KeyParts). all_fit k changes ≡ true) (sym key) ready.columns;
  few = omega (arith, ready.few, ap length marks);
  spare = omega (arith, ready.spare, spare);
  room = λ hash. subst (λ (k : KeyParts). puts k hash changes ≤ room_at new.lists hash) (sym key) (omega (arith, ready.room hash, room hash));
}

pub index_same : (old new : Indexed) (by_slot : List Fields) → new.key ≡ old.key → new.marks ≡ old.marks → IsIndexOf old by_slot → IsIndexOf new by_slot
index_same old new by_slot key marks is = record {
  few = is.few;
  columns = subst (λ (k : KeyParts). HaveColumns k by_slot) (sym key) is.columns;
  marks = marks ∙ is.marks ∙ ap (λ (k : KeyParts). marks_of k by_slot) (sym key);
}

-- rows by their slots have the columns that all rows have
pub columns_by_slot : (key : KeyParts) (by_slot rules : List Fields) → ((rule : Fields) → stands rule by_slot ≡ stands rule rules) → HaveColumns key rules → HaveColumns key by_slot
columns_by_slot key by_slot rules all have = λ k d within. standing (get_or by_slot k d) (sym (all (get_or by_slot k d)) ∙ stands_at by_slot k d within)
  where
    itself : (r : Fields) → same r r ≡ true
    itself r = (same-Decides r r).1 refl

    stands_at : (l : List Fields) (k : ℕ) (d : Fields) → k < length l → stands (get_or l k d) l ≡ true
    stands_at [] k d within = absurd (omega (arith, within))
    stands_at (x ∷ xs) zero d within = ap (λ (b : Bool). b || stands x xs) (itself x)
    stands_at (x ∷ xs) (suc k) d within = later (same (get_or xs k d) x) (stands_at xs k d (omega (arith, within)))
      where
        later : (b : Bool) → stands (get_or xs k d) xs ≡ true → (b || stands (get_or xs k d) xs) ≡ true
        later true is = refl
        later false is = is

    standing : (r : Fields) → stands r rules ≡ true → is_below (length r) key ≡ true
    standing r there = by rules there have
      where
        by : (l : List Fields) → stands r l ≡ true → HaveColumns key l → is_below (length r) key ≡ true
        by [] e each = absurd (true≢false (sym e))
        by (x ∷ xs) e each = first (same r x) refl e (λ later. by xs later (All-tail (λ (q : Fields). is_below (length q) key ≡ true) x xs each))
          where
            first : (b : Bool) → same r x ≡ b → (b || stands r xs) ≡ true → (stands r xs ≡ true → is_below (length r) key ≡ true) → is_below (length r) key ≡ true
            first true is e rest = subst (λ (q : Fields). is_below (length q) key ≡ true) (sym ((same-Decides r x).0 is)) (All-head (λ (q : Fields). is_below (length q) key ≡ true) x xs each)
            first false is e rest = rest e

-- what an index keeps beside, of the same marks with the same slots, counts and places
pub kept_copied : (marks same_marks : List Mark) (lists same_lists : Lists) (counts same_counts places same_places : List ℕ) → same_marks ≡ marks → ((hash : ℕ) → slots_at same_lists hash ≡ slots_at lists hash) → same_counts ≡ counts → same_places ≡ places
    → IsIndex marks lists counts places → IsIndex same_marks same_lists same_counts same_places
kept_copied marks same_marks lists same_lists counts same_counts places same_places marked listed counted placed is =
    subst (λ (m : List Mark). IsIndex m same_lists same_counts same_places) (sym marked)
    (subst (λ (n : List ℕ). IsIndex marks same_lists n same_places) (sym counted)
    (subst (λ (p : List ℕ). IsIndex marks same_lists counts p) (sym placed) (record {
      few = is.few;
      listed = λ hash slot. ap (count_by (nat_eq slot)) (listed hash) ∙ is.listed hash slot;
      counted = is.counted;
      placed = record {
        sizes = is.placed.sizes;
        each = λ slot d low. ap (λ (l : List ℕ). slice_get l (get_or places slot 0)) (listed (get_or marks slot d).hash) ∙ is.placed.each slot d low;
      };
    })))

-- more room alone: changes for which there was room can still be made
pub ready_more : (old : Indexed) (key : KeyParts) (marks after : List Mark) (spare more : ℕ) (lists others : Lists) → record { key = key; marks = marks; spare = spare; lists = lists } ≡ old → after ≡ marks → spare ≤ more → ((hash : ℕ) → room_at lists hash ≤ room_at others hash)
    → (changes : List Change) → IsReadyFor old changes → IsReadyFor (record { key = key; marks = after; spare = more; lists = others }) changes
ready_more old key marks after spare more lists others is same_marks longer room changes ready =
    let inside : Indexed = record { key = key; marks = marks; spare = spare; lists = lists } in
    let outside : Indexed = record { key = key; marks = after; spare = more; lists = others } in
    ready_same inside outside changes refl same_marks longer room (subst (λ (i : Indexed). IsReadyFor i changes) (sym is) ready)
