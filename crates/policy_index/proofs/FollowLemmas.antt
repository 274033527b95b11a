-- An index that follows a change of tables.
use Rattle.std.proofs.Common.{◌≡◌, ℕ, ◌+◌, ◌<◌, ◌≤◌, ◌^◌, ◌==◌, ◌&&◌, Bool, true, false, not, cond, if◌then◌else◌, List, ◌∷◌, length, position, Some, None, refl, sym, ap, subst, ◌∙◌, arith}
use Rattle.std.specs.List.{position_or_len}
use Rattle.std.specs.Prelude.{is_some}
use Rattle.std.proofs.lemmas.Bool.{and_parts, eq-eqb}
use Rattle.std.proofs.lemmas.List.Sums.{sum_by-cons}
use Rattle.perm_base.specs.declared.shapes.TableId.{TableId}
use Rattle.perm_base.specs.declared.shapes.TableId.TheVariants.{P}
use Rattle.policy_table.specs.Changes.{is_possible, is_table, suits, table_of}
use Rattle.policy_table.specs.Slots.{slots_after}
use Rattle.policy_table.specs.Tables.{Fields, Policy, place, rows, same, stands}
use Rattle.policy_table.specs.declared.change.Change.{Change}
use Rattle.policy_table.specs.declared.change.Change.TheVariants.{Insert, Remove, Replace}
use Rattle.policy_table.proofs.CallerLemmas.{found_first, found_slot, same_table}
use Rattle.policy_index.specs.Hashes.{mark_of}
use Rattle.policy_index.specs.Helps.Kept.{one_if}
use Rattle.policy_index.specs.Indexed.{Indexed, IsIndexOf, IsReadyFor, all_fit, fits_key, puts_hash, slots_behind, takes_slot}
use Rattle.policy_index.specs.Keys.{is_below}
use Rattle.policy_index.specs.Lists.{room_at}
use Rattle.policy_index.proofs.CommitLemmas.{own_fit, ready_rest}

-- the first of changes for which there is room
module _ (index : Indexed) (changes : List Change) where
  -- a rule that is inserted into p has a slot, room under its hash, and the columns
  pub ready_insert : (table : TableId) (rule : Fields) → is_table P table ≡ true → IsReadyFor index (Insert table rule ∷ changes)
      → (length index.marks + 1 < 2 ^ 32) × (0 < index.spare) × (0 < room_at index.lists (mark_of index.key rule).hash) × (is_below (length rule) index.key ≡ true)
  ready_insert table rule own ready =
      let hash = (mark_of index.key rule).hash in
      let takes = ap one_if own in
      let puts : one_if (is_table P table && hash == hash) ≡ 1 = ap one_if (ap (λ (b : Bool). b && hash == hash) own ∙ eq-eqb hash hash refl) in (
        omega (arith, ready.few, takes, sum_by-cons (λ (c : Change). cond (takes_slot c) 1 0) (Insert table rule) changes),
        omega (arith, ready.spare, takes, sum_by-cons (λ (c : Change). cond (takes_slot c) 1 0) (Insert table rule) changes),
        omega (arith, ready.room hash, puts, sum_by-cons (λ (c : Change). cond (puts_hash index.key hash c) 1 0) (Insert table rule) changes),
        own_fit (is_table P table) (is_below (length rule) index.key) own (and_parts (fits_key index.key (Insert table rule)) (all_fit index.key changes) ready.columns).0,
      )

  -- so has one that comes for another
  pub ready_replace : (table : TableId) (old new : Fields) → is_table P table ≡ true → IsReadyFor index (Replace table old new ∷ changes) → (0 < room_at index.lists (mark_of index.key new).hash) × (is_below (length new) index.key ≡ true)
  ready_replace table old new own ready =
      let hash = (mark_of index.key new).hash in
      let puts : one_if (is_table P table && hash == hash) ≡ 1 = ap one_if (ap (λ (b : Bool). b && hash == hash) own ∙ eq-eqb hash hash refl) in (
        omega (arith, ready.room hash, puts, sum_by-cons (λ (c : Change). cond (puts_hash index.key hash c) 1 0) (Replace table old new) changes),
        own_fit (is_table P table) (is_below (length new) index.key) own (and_parts (fits_key index.key (Replace table old new)) (all_fit index.key changes) ready.columns).0,
      )

-- a rule that stands has a slot
pub slot_there : (rule : Fields) (by_slot : List Fields) (slot : ℕ) → Some slot ≡ position (same rule) by_slot → slot < length by_slot
slot_there rule by_slot slot found = (found_slot rule slot by_slot (sym found)).within

-- what the rows of p are after a change of it
pub behind_own : (change : Change) (by_slot : List Fields) → is_table P (table_of change) ≡ true → slots_behind change by_slot ≡ slots_after change by_slot
behind_own change by_slot own = ap (λ (b : Bool). if b then slots_after change by_slot else by_slot) own

pub behind_other : (change : Change) (by_slot : List Fields) → is_table P (table_of change) ≡ false → slots_behind change by_slot ≡ by_slot
behind_other change by_slot other = ap (λ (b : Bool). if b then slots_after change by_slot else by_slot) other

-- room that is left
pub left_remove : (old new : Indexed) (table : TableId) (rule : Fields) (changes : List Change) → new.key ≡ old.key → length new.marks ≤ length old.marks → old.spare ≤ new.spare → ((hash : ℕ) → room_at old.lists hash ≤ room_at new.lists hash)
    → IsReadyFor old (Remove table rule ∷ changes) → IsReadyFor new changes
left_remove old new table rule changes key shorter spare room ready =
    ready_rest old new (Remove table rule) changes key ready (omega (arith, shorter)) (omega (arith, spare)) (λ hash. omega (arith, room hash))

pub left_replace : (old new : Indexed) (table : TableId) (first second : Fields) (changes : List Change) → is_table P table ≡ true → new.key ≡ old.key → length new.marks ≡ length old.marks → old.spare ≤ new.spare
    → ((hash : ℕ) → room_at old.lists hash ≤ room_at new.lists hash + one_if ((mark_of old.key second).hash == hash)) → IsReadyFor old (Replace table first second ∷ changes) → IsReadyFor new changes
left_replace old new table first second changes own key same_size spare room ready =
    ready_rest old new (Replace table first second) changes key ready (omega (arith, same_size)) (omega (arith, spare))
    (λ hash. subst (λ (b : Bool). room_at old.lists hash ≤ room_at new.lists hash + one_if (b && ((mark_of old.key second).hash == hash))) (sym own) (room hash))

-- a change of another table takes none
pub left_other : (old new : Indexed) (change : Change) (changes : List Change) → is_table P (table_of change) ≡ false → new ≡ old → IsReadyFor old (change ∷ changes) → IsReadyFor new changes
left_other old new change changes other same_index ready =
    subst (λ (i : Indexed). IsReadyFor i changes) (sym same_index)
    (ready_rest old old change changes refl ready (omega arith) (omega arith) (λ hash. omega arith))

-- a rule that stands is not without a slot
pub has_slot : (rule : Fields) (by_slot : List Fields) → stands rule by_slot ≡ true → position (same rule) by_slot ≡ None → ⊥
has_slot rule by_slot some none = let found : Some (position_or_len (same rule) by_slot) ≡ None = sym (found_first rule by_slot some) ∙ none in absurd cc

-- ---- the same, by what the change is

module _ (index : Indexed) (change : Change) (changes : List Change) (own : is_table P (table_of change) ≡ true) (ready : IsReadyFor index (change ∷ changes)) where
  pub when_insert : (table : TableId) (rule : Fields) → change ≡ Insert table rule → (length index.marks + 1 < 2 ^ 32) × (0 < index.spare) × (0 < room_at index.lists (mark_of index.key rule).hash) × (is_below (length rule) index.key ≡ true)
  when_insert table rule is = ready_insert index changes table rule (subst (λ (c : Change). is_table P (table_of c) ≡ true) is own) (subst (λ (c : Change). IsReadyFor index (c ∷ changes)) is ready)

  pub when_replace : (table : TableId) (old new : Fields) → change ≡ Replace table old new → (0 < room_at index.lists (mark_of index.key new).hash) × (is_below (length new) index.key ≡ true)
  when_replace table old new is = ready_replace index changes table old new (subst (λ (c : Change). is_table P (table_of c) ≡ true) is own) (subst (λ (c : Change). IsReadyFor index (c ∷ changes)) is ready)

-- the rule that goes stands in p
module _ (change : Change) (policy : Policy) (own : is_table P (table_of change) ≡ true) (possible : is_possible change policy ≡ true) where
  p_it_is : table_of change ≡ P
  p_it_is = sym (same_table P (table_of change) own)

  suits_p : suits change (rows policy P) ≡ true
  suits_p = subst (λ (t : TableId). suits change (rows policy t) ≡ true) p_it_is (and_parts (is_some (place (table_of change))) (suits change (rows policy (table_of change))) possible).1

  pub stands_removed : (table : TableId) (rule : Fields) → change ≡ Remove table rule → stands rule (rows policy P) ≡ true
  stands_removed table rule is = subst (λ (c : Change). suits c (rows policy P) ≡ true) is suits_p

  pub stands_replaced : (table : TableId) (old new : Fields) → change ≡ Replace table old new → stands old (rows policy P) ≡ true
  stands_replaced table old new is = (and_parts (stands old (rows policy P)) (not (stands new (rows policy P))) (subst (λ (c : Change). suits c (rows policy P) ≡ true) is suits_p)).0

-- the rows behind it
pub behind_is : (change : Change) (by_slot after : List Fields) → is_table P (table_of change) ≡ true → slots_after change by_slot ≡ after → (new : Indexed) → IsIndexOf new after → IsIndexOf new (slots_behind change by_slot)
behind_is change by_slot after own is new index = subst (IsIndexOf new) (sym (behind_own change by_slot own ∙ is)) index

-- room that is left
pub rest_insert : (old new : Indexed) (change : Change) (table : TableId) (rule : Fields) → change ≡ Insert table rule → is_table P (table_of change) ≡ true → new.key ≡ old.key → length new.marks ≡ length old.marks + 1 → old.spare ≤ new.spare + 1
    → ((hash : ℕ) → room_at old.lists hash ≤ room_at new.lists hash + one_if ((mark_of old.key rule).hash == hash)) → (changes : List Change) → IsReadyFor old (change ∷ changes) → IsReadyFor new changes
rest_insert old new change table rule is own key longer spare room changes ready =
    let here : is_table P table ≡ true = subst (λ (c : Change). is_table P (table_of c) ≡ true) is own in
    ready_rest old new (Insert table rule) changes key (subst (λ (c : Change). IsReadyFor old (c ∷ changes)) is ready) (omega (arith, longer, ap one_if here)) (omega (arith, spare, ap one_if here))
    (λ hash. subst (λ (b : Bool). room_at old.lists hash ≤ room_at new.lists hash + one_if (b && ((mark_of old.key rule).hash == hash))) (sym here) (room hash))

pub rest_remove : (old new : Indexed) (change : Change) (table : TableId) (rule : Fields) → change ≡ Remove table rule → new.key ≡ old.key → length new.marks ≤ length old.marks → old.spare ≤ new.spare → ((hash : ℕ) → room_at old.lists hash ≤ room_at new.lists hash)
    → (changes : List Change) → IsReadyFor old (change ∷ changes) → IsReadyFor new changes
rest_remove old new change table rule is key shorter spare room changes ready = left_remove old new table rule changes key shorter spare room (subst (λ (c : Change). IsReadyFor old (c ∷ changes)) is ready)

pub rest_replace : (old new : Indexed) (change : Change) (table : TableId) (first second : Fields) → change ≡ Replace table first second → is_table P (table_of change) ≡ true → new.key ≡ old.key → length new.marks ≡ length old.marks → old.spare ≤ new.spare
    → ((hash : ℕ) → room_at old.lists hash ≤ room_at new.lists hash + one_if ((mark_of old.key second).hash == hash)) → (changes : List Change) → IsReadyFor old (change ∷ changes) → IsReadyFor new changes
rest_replace old new change table first second is own key same_size spare room changes ready =
    left_replace old new table first second changes (subst (λ (c : Change). is_table P (table_of c) ≡ true) is own) key same_size spare room (subst (λ (c : Change). IsReadyFor old (c ∷ changes)) is ready)
