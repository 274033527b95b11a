-- Exactly the rows with a text, where an index is by one column alone.
use Rattle.std.proofs.Common.{◌≡◌, ℕ, ◌<◌, ◌&&◌, Bool, true, false, List, [], ◌∷◌, length, get_or, slice_get, All, Option, Some, None, sym, ap, subst, ◌∙◌}
use Rattle.std.specs.Prelude.{filter, nat_lt}
use Rattle.std.specs.Option.{option_map_or}
use Rattle.std.proofs.lemmas.Bool.{and_parts, ltb-true}
use Rattle.policy_table.specs.Slots.{AreSlots}
use Rattle.policy_table.specs.Tables.{Fields, stands}
use Rattle.policy_index.specs.Found.{AddsSlots, ArePlacesOf}
use Rattle.policy_index.specs.Keys.{HaveColumns, KeyParts, agrees, is_below, of_column}
use Rattle.policy_index.specs.Places.{has_text, has_text_at, places_of}
use Rattle.policy_index.proofs.CommitLemmas.{columns_by_slot}
use Rattle.policy_index.proofs.OrderLemmas.{exact_rows, finds_rows}

-- slots that are added are those of rows
pub all_added : (test : Fields → Bool) (by_slot : List Fields) (found : List ℕ) → AddsSlots test by_slot [] found → All (λ (slot : ℕ). slot < length by_slot) found
all_added test by_slot found adds = subst (All (λ (slot : ℕ). slot < length by_slot)) (sym adds.behind) adds.within

-- rows have the column, since their slots have
pub rows_have_column : (column : ℕ) (key : KeyParts) (by_slot rows : List Fields) → key ≡ of_column column → ((rule : Fields) → stands rule by_slot ≡ stands rule rows) → HaveColumns key by_slot → All (λ (rule : Fields). column < length rule) rows
rows_have_column column key by_slot rows is all have = λ k d within.
    let one : is_below (length (get_or rows k d)) (of_column column) ≡ true = ap (is_below (length (get_or rows k d))) (sym is) ∙ columns_by_slot key rows by_slot (λ rule. sym (all rule)) have k d within in
    ltb-true column (length (get_or rows k d)) (and_parts (nat_lt column (length (get_or rows k d))) true (and_parts (nat_lt column (length (get_or rows k d)) && true) true one).0).0

-- a row that has the text agrees
agrees_one : (column : ℕ) (text : List ℕ) (rule : Fields) → has_text column text rule ≡ true → agrees (of_column column) (text ∷ []) [] rule ≡ true
agrees_one column text rule has = ap (λ (b : Bool). (b && true) && true) has

pub exact_rows_found : (column : ℕ) (text : List ℕ) (by_slot rows : List Fields) (found places : List ℕ) → AreSlots by_slot rows → AddsSlots (agrees (of_column column) (text ∷ []) []) by_slot [] found → ArePlacesOf by_slot rows found places
    → filter (has_text_at column text rows) places ≡ places_of column text rows
exact_rows_found column text by_slot rows found places slots adds are =
    let all = finds_rows (agrees (of_column column) (text ∷ []) []) by_slot rows found places slots adds are in
    exact_rows column text rows places all.rising (λ place has. all.each place (by (slice_get rows place) has))
  where
    by : (o : Option Fields) → option_map_or (has_text column text) o false ≡ true → option_map_or (agrees (of_column column) (text ∷ []) []) o false ≡ true
    by None has = has
    by (Some rule) has = agrees_one column text rule has
