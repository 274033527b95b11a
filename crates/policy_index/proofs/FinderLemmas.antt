-- Finders that follow the changes of tables, and what they find.
use Rattle.std.proofs.Common.{◌≡◌, ℕ, zero, suc, ◌+◌, ◌<◌, ◌≤◌, ◌==◌, ◌&&◌, ◌||◌, ◌⊎◌, inl, inr, Bool, true, false, true≢false, not, cond, List, [], ◌∷◌, length, get_or, set, drop, slice_get, Option, Some, None, refl, sym, ap, subst, ◌∙◌, arith, add-one}
use Rattle.std.specs.Prelude.{IfSome, is_some}
use Rattle.std.specs.Option.{option_map_or}
use Rattle.std.specs.Str.{bytes_eq}
use Rattle.std.proofs.lemmas.Bool.{and_parts, cases_eq}
use Rattle.std.proofs.lemmas.List.{get_or-set_other, get_or-set_same, length-set}
use Rattle.std.proofs.lemmas.List.Elements.{All-nil}
use Rattle.perm_base.specs.declared.shapes.TableId.{TableId}
use Rattle.policy_table.specs.Changes.{is_possible, is_table, suits, table_of}
use Rattle.policy_table.specs.Filters.{fits_filter, fits_values}
use Rattle.policy_table.specs.Held.{Held}
use Rattle.policy_table.specs.Slots.{AreSlots, slots, slots_after, slots_changed}
use Rattle.policy_table.specs.Tables.{Fields, Policy, most_tables, place, rows}
use Rattle.policy_table.specs.declared.change.Change.{Change}
use Rattle.policy_table.proofs.CallerLemmas.{same_table, slots_other, slots_own}
use Rattle.policy_index.specs.Finders.{AreFindersIn, IsFinderIn, Sought}
use Rattle.policy_index.specs.Found.{AddsSlots, ArePlacesOf, FindRows}
use Rattle.policy_index.specs.Helps.Filters.{columns_from, texts_of}
use Rattle.policy_index.specs.Indexed.{Indexed, IsIndexOf}
use Rattle.policy_index.specs.Keys.{KeyParts, agrees, fits_pattern, has_texts, is_below}
use Rattle.policy_index.proofs.OrderLemmas.{finds_rows}

-- what holds of a value where there is one
pub if_some : {X : Type 0} (made : Option X) (value : X) → made ≡ Some value → (P : X → Type 0) → IfSome made P → P value
if_some {X} made value is P told = subst (λ (o : Option X). IfSome o P) is told

-- ---- one finder

-- an index of no rows
pub none_indexed : (index : Indexed) → index.marks ≡ [] → IsIndexOf index []
none_indexed index none = record {
  few = omega arith;
  columns = All-nil (λ (rule : Fields). is_below (length rule) index.key ≡ true);
  marks = none;
}

-- what is seen of a finder is a finder
pub seen : (now : Sought) (table : TableId) (index : Indexed) (held : Held) → record { table = table; index = index } ≡ now → IsFinderIn held now → IsFinderIn held (record { table = table; index = index })
seen now table index held is finder = subst (IsFinderIn held) (sym is) finder

-- where there is a table, it has a place
place_there : (place_of : Option ℕ) → is_some place_of ≡ true → (at : ℕ) × (place_of ≡ Some at)
place_there None some = absurd (true≢false (sym some))
place_there (Some at) some = (at, refl)

-- the slots of a table before and after a change of its own
own_slots : (table : TableId) (change : Change) (held after : Held) → length held.slots ≡ most_tables → is_possible change held.policy ≡ true → is_table table (table_of change) ≡ true → after.slots ≡ slots_changed change held.slots
    → slots after table ≡ slots_after change (slots held table)
own_slots table change held after nine possible own made =
    let there = place_there (place (table_of change)) (and_parts (is_some (place (table_of change))) (suits change (rows held.policy (table_of change))) possible).0 in
    slots_own change held after table there.0 own (ap place (same_table table (table_of change) own) ∙ there.1) nine made

-- and of a change of another
other_slots : (table : TableId) (change : Change) (held after : Held) → is_table table (table_of change) ≡ false → after.slots ≡ slots_changed change held.slots → slots after table ≡ slots held table
other_slots table change held after apart made = by (place table) refl
  where
    by : (p : Option ℕ) → place table ≡ p → slots after table ≡ slots held table
    by None e = ap (λ (o : Option ℕ). option_map_or (λ (at : ℕ). get_or after.slots at []) o []) e ∙ sym (ap (λ (o : Option ℕ). option_map_or (λ (at : ℕ). get_or held.slots at []) o []) e)
    by (Some at) e = slots_other change held after table at apart e made

-- a change of another table leaves a finder as it is
pub followed_other : (finder : Sought) (change : Change) (held after : Held) → IsFinderIn held finder → is_table finder.table (table_of change) ≡ false → after.slots ≡ slots_changed change held.slots → IsFinderIn after finder
followed_other finder change held after is apart made = record {
  plain = is.plain;
  index = subst (IsIndexOf finder.index) (sym (other_slots finder.table change held after apart made)) is.index;
}

-- a change of its own is followed by its index
pub followed_own : (table : TableId) (old new : Indexed) (change : Change) (held after : Held) → IsFinderIn held (record { table = table; index = old }) → length held.slots ≡ most_tables → is_possible change held.policy ≡ true
    → is_table table (table_of change) ≡ true → new.key ≡ old.key → IsIndexOf new (slots_after change (slots held table)) → after.slots ≡ slots_changed change held.slots → IsFinderIn after (record { table = table; index = new })
followed_own table old new change held after is nine possible own key rows made = record {
  plain = ap (λ (k : KeyParts). k.pattern) key ∙ is.plain;
  index = subst (IsIndexOf new) (sym (own_slots table change held after nine possible own made)) rows;
}

-- ---- what is found

-- fewer rows are found too
finds_fewer : (p q : Fields → Bool) (all : List Fields) (places : List ℕ) → ((rule : Fields) → q rule ≡ true → p rule ≡ true) → FindRows p all places → FindRows q all places
finds_fewer p q all places fewer finds = record {
  rising = finds.rising;
  within = finds.within;
  each = λ place passes. finds.each place (by (slice_get all place) passes);
}
  where
    by : (o : Option Fields) → option_map_or q o false ≡ true → option_map_or p o false ≡ true
    by None passes = passes
    by (Some rule) passes = fewer rule passes

-- rows with the texts agree, where no pattern counts
pub finds_texts : (finder : Sought) (held : Held) (texts : List (List ℕ)) (found places : List ℕ) → IsFinderIn held finder → AreSlots (slots held finder.table) (rows held.policy finder.table)
    → AddsSlots (agrees finder.index.key texts []) (slots held finder.table) [] found → ArePlacesOf (slots held finder.table) (rows held.policy finder.table) found places
    → FindRows (has_texts finder.index.key.columns texts) (rows held.policy finder.table) places
finds_texts finder held texts found places is slotted adds are =
    finds_fewer (agrees finder.index.key texts []) (has_texts finder.index.key.columns texts) (rows held.policy finder.table) places
    (λ rule has j. has j && (ap (λ p. fits_pattern p [] rule) is.plain) j)
    (finds_rows (agrees finder.index.key texts []) (slots held finder.table) (rows held.policy finder.table) found places slotted adds are)

-- what stands from a place on
from_place : (rule : Fields) (at : ℕ) (field : List ℕ) (fields : Fields) → drop at rule ≡ field ∷ fields → (slice_get rule at ≡ Some field) × (drop (suc at) rule ≡ fields)
from_place [] zero field fields e = absurd cc
from_place [] (suc at) field fields e = absurd cc
from_place (first ∷ rest) zero field fields e = let same : first ≡ field = cc in let left : rest ≡ fields = cc in (ap Some same, left)
from_place (first ∷ rest) (suc at) field fields e = from_place rest at field fields e

-- a rule that fits a filter has its texts
pub fits_texts : (rule : Fields) (at : ℕ) (values : List (List ℕ)) → fits_filter rule at values ≡ true → has_texts (columns_from at values) (texts_of values) rule ≡ true
fits_texts rule at [] fits = refl
fits_texts rule at (value ∷ values) fits = by (drop at rule) refl fits (fits_texts rule (at + 1) values)
  where
    open_or : (b : Bool) → (length value == 0) ≡ b → (field : List ℕ) → slice_get rule at ≡ Some field → (b || bytes_eq value field) ≡ true → has_texts (columns_from (at + 1) values) (texts_of values) rule ≡ true
        → has_texts (cond b (columns_from (at + 1) values) (at ∷ columns_from (at + 1) values)) (cond (not b) (value ∷ texts_of values) (texts_of values)) rule ≡ true
    open_or true e field there equal rest = rest
    open_or false e field there equal rest = λ j. (ap (λ (o : Option (List ℕ)). option_map_or (bytes_eq value) o false) there ∙ equal) j && rest j

    by : (left : Fields) → drop at rule ≡ left → fits_values left (value ∷ values) ≡ true → (fits_filter rule (at + 1) values ≡ true → has_texts (columns_from (at + 1) values) (texts_of values) rule ≡ true)
        → has_texts (cond (length value == 0) (columns_from (at + 1) values) (at ∷ columns_from (at + 1) values)) (cond (not (length value == 0)) (value ∷ texts_of values) (texts_of values)) rule ≡ true
    by [] e passes rest = absurd (true≢false (sym passes))
    by (field ∷ fields) e passes rest =
        let both = and_parts (length value == 0 || bytes_eq value field) (fits_values fields values) passes in
        let there = from_place rule at field fields e in
        open_or (length value == 0) refl field there.0 both.0 (rest (ap (λ (l : Fields). fits_values l values) (ap (λ (n : ℕ). drop n rule) (add-one at) ∙ there.1) ∙ both.1))

-- so rows that fit a filter are found by its texts
pub finds_fitting : (finder : Sought) (table : TableId) (columns : List ℕ) (at : ℕ) (values : List (List ℕ)) (policy : Policy) (places : List ℕ) → finder.table ≡ table → finder.index.key.columns ≡ columns → columns ≡ columns_from at values
    → FindRows (has_texts finder.index.key.columns (texts_of values)) (rows policy finder.table) places → FindRows (λ (rule : Fields). fits_filter rule at values) (rows policy table) places
finds_fitting finder table columns at values policy places own by_columns are finds =
    subst (λ (t : TableId). FindRows (λ (rule : Fields). fits_filter rule at values) (rows policy t) places) own
    (finds_fewer (has_texts finder.index.key.columns (texts_of values)) (λ (rule : Fields). fits_filter rule at values) (rows policy finder.table) places
    (λ rule fits. ap (λ (l : List ℕ). has_texts l (texts_of values) rule) (by_columns ∙ are) ∙ fits_texts rule at values fits) finds)

-- ---- several finders

-- so many finders have followed a change, and the others are as they were
pub record Follow (change : Change) (held : Held) (old now : List Sought) (at : ℕ) : Type 0 where
  pub done : (after : Held) → after.slots ≡ slots_changed change held.slots → (k : ℕ) (d : Sought) → k < at → k < length now → IsFinderIn after (get_or now k d)
  pub left : (k : ℕ) (d : Sought) → at ≤ k → k < length now → IsFinderIn held (get_or now k d)
  pub size : length now ≡ length old

pub follow_none : (change : Change) (held : Held) (old : List Sought) → AreFindersIn held old → Follow change held old old 0
follow_none change held old are = record {
  done = λ after made k d less within. absurd (omega (arith, less));
  left = λ k d from within. are k d within;
  size = refl;
}

pub follow_more : (change : Change) (held : Held) (old now : List Sought) (at : ℕ) (new : Sought) → at < length now → ((after : Held) → after.slots ≡ slots_changed change held.slots → IsFinderIn after new) → Follow change held old now at
    → Follow change held old (set now at new) (at + 1)
follow_more change held old now at new within follows are = record {
  done = λ after made k d less inside. by after made k d less (omega (arith, inside, length-set now at new)) (cases_eq k at);
  left = λ k d from inside.
      subst (IsFinderIn held) (sym (get_or-set_other now at k new d (λ same. absurd (omega (arith, from, same))))) (are.left k d (omega (arith, from)) (omega (arith, inside, length-set now at new)));
  size = length-set now at new ∙ are.size;
}
  where
    by : (after : Held) → after.slots ≡ slots_changed change held.slots → (k : ℕ) (d : Sought) → k < at + 1 → k < length now → (k ≡ at) ⊎ (k ≡ at → ⊥) → IsFinderIn after (get_or (set now at new) k d)
    by after made k d less inside (inl same) = subst (IsFinderIn after) (sym (ap (λ (n : ℕ). get_or (set now at new) n d) same ∙ get_or-set_same now at new d within)) (follows after made)
    by after made k d less inside (inr differ) = subst (IsFinderIn after) (sym (get_or-set_other now at k new d differ)) (are.done after made k d (omega (arith, less, differ)) inside)

pub follow_all : (change : Change) (held : Held) (old now : List Sought) (at : ℕ) → length old ≤ at → Follow change held old now at → (after : Held) → after.slots ≡ slots_changed change held.slots → AreFindersIn after now
follow_all change held old now at past are after made = λ k d within. are.done after made k d (omega (arith, within, past, are.size)) within
