-- What the steps of an edit of one table come to, one after the other.
use Rattle.std.proofs.Common.{◌≡◌, ℕ, ◌+◌, ◌-◌, ◌<◌, ◌≤◌, ◌^◌, ◌==◌, Bool, true, false, not, nat_lt, List, [], ◌∷◌, ◌++◌, length, filter, position, append_assoc, Some, None, sym, ap, subst, ◌∙◌, true≢false, arith}
use Rattle.std.specs.Prelude.{if◌then◌else◌, min}
use Rattle.std.specs.List.{IsDistinct, swap_remove}
use Rattle.std.proofs.lemmas.Bool.{le-ltb, lt-ltb}
use Rattle.indexmap.specs.IndexMap.{swap_remove_by}
use Rattle.indexmap.specs.IndexSet.{insert_key}
use Rattle.row_order.specs.Orders.{renamed as renamed_ids}
use Rattle.policy_table.specs.Changes.{in_place, inserted, without as without_rule}
use Rattle.policy_table.specs.Helps.Orders.{AreBelow, IsPut, IsTable, by_id, in_order}
use Rattle.policy_table.specs.Helps.Rows.{RiseWhere}
use Rattle.policy_table.specs.Tables.{Fields, same, stands}
use Rattle.policy_table.proofs.OrderLemmas.{left_absent, left_below, length_without, by_id-Decides, no_place}
use Rattle.policy_table.proofs.RankLemmas.{rising_without}
use Rattle.policy_table.proofs.RowLemmas.{absent_before, insert_key-absent, same-Decides, swap_remove_by-renamed, without}
use Rattle.policy_table.proofs.SlotLemmas.{HasSlot, below, found_slot, none_found, order_without, pushed_rows, pushed_table, stands_order}
use Rattle.policy_table.proofs.SwapLemmas.{found_swap, moved_rows, moved_table, placed_rows, placed_table, taken_rows, taken_table}

-- more of both is more of the less
pub less_of_both : (a b c d : ℕ) → a ≤ c → b ≤ d → min a b ≤ min c d
less_of_both a b c d first second = grind arith

pub both_enough : (n a b : ℕ) → n ≤ a → n ≤ b → n ≤ min a b
both_enough n a b first second = grind arith

pub less_than_both : (n a b : ℕ) → n < min a b → (n < a) × (n < b)
less_than_both n a b less = (grind arith, grind arith)

-- where a rule is absent or not, as the test says
pub unless_stands : {X : Type 0} (b : Bool) (after kept longer : X) → b ≡ false → after ≡ longer → after ≡ (if b then kept else longer)
unless_stands true after kept longer absent made = absurd (true≢false absent)
unless_stands false after kept longer absent made = made

pub where_stands : {X : Type 0} (b : Bool) (after kept longer : X) → b ≡ true → after ≡ kept → after ≡ (if b then kept else longer)
where_stands true after kept longer some made = made
where_stands false after kept longer some made = absurd (true≢false (sym some))

module _ (keys : List Fields) (ids : List ℕ) (table : IsTable keys ids) where
  -- the next slot stands nowhere yet
  pub next_slot_new : (slot : ℕ) → slot ≡ length keys → position (λ x. x == slot) ids ≡ None
  next_slot_new slot next = no_place slot ids (table.order.all slot ∙ ap (λ n. nat_lt n (length keys)) next ∙ le-ltb (length keys) (length keys) (omega arith))

  -- a rule is put in
  pub pushed : (shown after : List Fields) (new : List ℕ) (slot : ℕ) (ranked : Bool) (rule : Fields) → shown ≡ keys → slot ≡ length keys → stands rule (in_order keys ids) ≡ false → after ≡ insert_key same keys rule → IsDistinct same after → IsPut ranked rule shown slot ids new
      → IsTable after new × (in_order after new ≡ inserted ranked rule (in_order keys ids)) × (after ≡ keys ++ rule ∷ [])
  pushed shown after new slot ranked rule keys_shown next absent made distinct put = (
    subst (λ (l : List Fields). IsTable l new) (sym longer) (pushed_table keys ids table ranked rule new (subst (IsDistinct same) longer distinct) here),
    ap (λ (l : List Fields). in_order l new) longer ∙ pushed_rows keys ids table ranked rule new here,
    longer,
  )
    where
      longer : after ≡ keys ++ rule ∷ []
      longer = made ∙ insert_key-absent same keys rule (sym (stands_order keys ids table rule) ∙ absent)

      here : IsPut ranked rule keys (length keys) ids new
      here = subst (λ n. IsPut ranked rule keys n ids new) next (subst (λ (l : List Fields). IsPut ranked rule l slot ids new) keys_shown put)

  -- the slot that was found is not among those that are left
  pub freed_slot : (slot : ℕ) → position (λ x. x == slot) (filter (λ x. not (x == slot)) ids) ≡ None
  freed_slot slot = no_place slot (without by_id slot ids) (left_absent slot ids)

  pub fewer_ids : (slot : ℕ) → slot < length keys → length (filter (λ x. not (x == slot)) ids) + 1 ≡ length ids
  fewer_ids slot within = length_without by_id by_id-Decides slot ids table.order.once (table.order.all slot ∙ lt-ltb slot (length keys) within)

  -- a rule that stands has a slot
  pub must_have_slot : (rule : Fields) → stands rule (in_order keys ids) ≡ true → position (same rule) keys ≡ None → ⊥
  must_have_slot rule some none = true≢false (sym (sym (stands_order keys ids table rule) ∙ some) ∙ none_found (same rule) keys none)

  module _ (rule : Fields) (slot : ℕ) (found : position (same rule) keys ≡ Some slot) where
    has : HasSlot rule slot keys
    has = found_slot rule slot keys found

    pub slot_inside : slot < length keys
    slot_inside = has.within

    -- it is taken out
    pub taken : (after : List Fields) (new : List ℕ) (last : ℕ) → last ≡ length keys - 1 → after ≡ swap_remove_by (same rule) keys → IsDistinct same after → new ≡ renamed_ids last slot (filter (λ x. not (x == slot)) ids)
        → IsTable after new × (in_order after new ≡ without_rule rule (in_order keys ids))
    taken after new last lasts made once told = (
      subst (λ (l : List Fields). IsTable l new) (sym swapped) (subst (λ (l : List ℕ). IsTable (swap_remove keys slot []) l) (sym names) (taken_table keys ids table rule slot has (subst (IsDistinct same) swapped once))),
      (λ j. in_order (swapped j) (names j)) ∙ taken_rows keys ids table rule slot has,
    )
      where
        swapped : after ≡ swap_remove keys slot []
        swapped = made ∙ found_swap (same rule) keys slot found

        names : new ≡ renamed_ids (length keys - 1) slot (filter (λ x. not (x == slot)) ids)
        names = told ∙ ap (λ n. renamed_ids n slot (filter (λ x. not (x == slot)) ids)) lasts

    -- a new one comes into its slot
    pub into_slot : (new : Fields) (middle after : List Fields) → stands new (in_order keys ids) ≡ false → middle ≡ insert_key same keys new → after ≡ swap_remove_by (same rule) middle → stands rule (in_order keys ids) ≡ true → after ≡ in_place rule new keys
    into_slot new middle after absent pushed_in swapped some =
        swapped ∙ ap (swap_remove_by (same rule)) (pushed_in ∙ insert_key-absent same keys new (sym (stands_order keys ids table new) ∙ absent))
        ∙ swap_remove_by-renamed same same-Decides rule new keys table.once (sym (stands_order keys ids table rule) ∙ some)

    -- in the place of the old one
    pub placed : (new : Fields) (after : List Fields) → after ≡ in_place rule new keys → IsDistinct same after → IsTable after ids × (in_order after ids ≡ in_place rule new (in_order keys ids))
    placed new after made once = (
      subst (λ (l : List Fields). IsTable l ids) (sym made) (placed_table keys ids table rule slot has new (subst (IsDistinct same) made once)),
      ap (λ (l : List Fields). in_order l ids) made ∙ placed_rows keys ids table rule slot has new,
    )

    -- or where its rank belongs
    pub left_rising : (shown : List Fields) (left : List ℕ) → shown ≡ keys → left ≡ filter (λ x. not (x == slot)) ids → RiseWhere true (in_order keys ids) → RiseWhere true (in_order shown left)
    left_rising shown left keys_shown told rising =
        λ mark. subst (λ (l : List Fields). RiseWhere true l) (sym ((λ j. in_order (keys_shown j) (told j)) ∙ order_without keys table.once rule slot ids has (below keys ids table))) (λ e. rising_without rule (in_order keys ids) (rising e)) mark

    pub left_inside : (shown : List Fields) (left : List ℕ) → shown ≡ keys → left ≡ filter (λ x. not (x == slot)) ids → AreBelow (length shown) left
    left_inside shown left keys_shown told = subst (λ (l : List Fields). AreBelow (length l) left) (sym keys_shown) (subst (λ (l : List ℕ). AreBelow (length keys) l) (sym told) (left_below (length keys) slot ids table.order))

    pub moved : (new : Fields) (shown after : List Fields) (left order : List ℕ) → shown ≡ keys → left ≡ filter (λ x. not (x == slot)) ids → after ≡ in_place rule new keys → IsDistinct same after → IsPut true new shown slot left order
        → IsTable after order × (in_order after order ≡ inserted true new (without_rule rule (in_order keys ids)))
    moved new shown after left order keys_shown told made once put = (
      subst (λ (l : List Fields). IsTable l order) (sym made) (moved_table keys ids table rule slot has new order here (subst (IsDistinct same) made once)),
      ap (λ (l : List Fields). in_order l order) made ∙ moved_rows keys ids table rule slot has new order here,
    )
      where
        here : IsPut true new keys slot (without by_id slot ids) order
        here = subst (λ (l : List ℕ). IsPut true new keys slot l order) told (subst (λ (l : List Fields). IsPut true new l slot left order) keys_shown put)

-- the room after a rule is put in, and after one is taken out
pub spare_pushed : (a b slots after n m : ℕ) → a ≤ b + 1 → after ≡ slots → m ≡ n + 1 → min a (slots - n) ≤ min b (after - m) + 1
spare_pushed a b slots after n m first same more = grind arith

pub spare_taken : (a b slots after n m : ℕ) → a ≤ b → after ≡ slots → m + 1 ≡ n → min a (slots - n) ≤ min b (after - m)
spare_taken a b slots after n m first same less = grind arith

pub spare_placed : (a m b slots after n k : ℕ) → a ≤ m + 1 → m ≤ b → after ≡ slots → k ≡ n → min a (slots - n) ≤ min b (after - k) + 1
spare_placed a m b slots after n k first second same counts = grind arith

-- a sum that has 32 bits was not cut
pub sum_fits : (len count wanted slots : ℕ) → wanted ≡ min (len + count) (2 ^ 64 - 1) → wanted ≡ slots → slots < 2 ^ 32 → len + count ≤ slots
sum_fits len count wanted slots sum same few = grind arith

-- room for so many rules
pub room_for : (count spare slots wanted len : ℕ) → count ≤ spare → wanted ≤ slots → len + count ≤ wanted → count ≤ min spare (slots - len)
room_for count spare slots wanted len first second sum = grind arith

-- one rule more is copied in its order
pub one_more : (whole front slots left rest : List Fields) (row rule : Fields) (after after_slots : List Fields) → front ++ left ≡ whole → slots ≡ front → left ≡ row ∷ rest → IsDistinct same whole → rule ≡ row
    → after ≡ (if stands rule front then front else front ++ rule ∷ []) → after_slots ≡ (if stands rule front then slots else slots ++ rule ∷ []) → (after ++ rest ≡ whole) × (after_slots ≡ after)
one_more whole front slots left rest row rule after after_slots parts slotted first distinct copied made moved = (
  ap (λ l. l ++ rest) longer ∙ append_assoc front (row ∷ []) rest ∙ sym whole_is,
  (moved ∙ ap (λ b. if b then slots else slots ++ rule ∷ []) absent ∙ (λ j. slotted j ++ copied j ∷ [])) ∙ sym longer,
)
  where
    whole_is : whole ≡ front ++ row ∷ rest
    whole_is = sym parts ∙ ap (λ l. front ++ l) first

    absent : stands rule front ≡ false
    absent = ap (λ r. stands r front) copied ∙ absent_before same same-Decides front rest row (subst (IsDistinct same) whole_is distinct)

    longer : after ≡ front ++ row ∷ []
    longer = made ∙ ap (λ b. if b then front else front ++ rule ∷ []) absent ∙ ap (λ r. front ++ r ∷ []) copied
