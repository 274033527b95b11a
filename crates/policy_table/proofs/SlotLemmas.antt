-- The rules of slots in an order: what a table shows, and what its changes make of it.
use Rattle.std.proofs.Common.{◌≡◌, ◌≢◌, ℕ, ◌+◌, ◌<◌, ◌≤◌, ◌==◌, Bool, true, false, not, ◌||◌, cond, eqb, nat_lt, List, [], ◌∷◌, ◌++◌, length, get_or, filter, position, slice_get, Some, None, All, refl, sym, ap, subst, ◌∙◌, true≢false, arith}
use Rattle.std.specs.List.{AllByRecursion, IsDistinct, list_any, position_or_len}
use Rattle.std.proofs.lemmas.Bool.{eqb-false, eqb-true, le-ltb, lt-ltb, ltb-false, ltb-true}
use Rattle.std.proofs.lemmas.List.{get_or-map, get_or-append-add, get_or_append_left, get_or_push, length-append, length-map, length_push, map-append}
use Rattle.std.proofs.lemmas.List.Elements.{All-from_recursion, All-get_or, All-head, All-tail}
use Rattle.std.proofs.lemmas.List.Folds.{list_any_none}
use Rattle.std.proofs.lemmas.List.Sums.{passes_at_first}
use Rattle.std.proofs.lemmas.Map.Keys.{apart_from_distinct}
use Rattle.std.proofs.lemmas.Option.{get_or_from_slice_get, none-some, slice_get-get_or, slice_get_within}
use Rattle.std.proofs.lemmas.List.Quantifiers.{position-Some}
use Rattle.policy_table.specs.Changes.{inserted, without as without_rule}
use Rattle.policy_table.specs.Helps.Orders.{AreAllBelow, AreBelow, IsPut, IsTable, by_id, has_id, in_order}
use Rattle.policy_table.specs.Slots.{AreSlots}
use Rattle.policy_table.specs.Tables.{Fields, same, stands}
use Rattle.policy_table.proofs.OrderLemmas.{all_below, any_at, apart_absent, by_id-Decides, next_put, position_absent}
use Rattle.policy_table.proofs.RowLemmas.{flipped, position_or_len-within, same-Decides, without}

-- the rules of the same slots are the same where each is
pub order_same : (first second : List Fields) (ids : List ℕ) → All (λ (id : ℕ). get_or first id [] ≡ get_or second id []) ids → in_order first ids ≡ in_order second ids
order_same first second [] each = refl
order_same first second (id ∷ ids) each =
    let here = All-head (λ (i : ℕ). get_or first i [] ≡ get_or second i []) id ids each in
    let rest = order_same first second ids (All-tail (λ (i : ℕ). get_or first i [] ≡ get_or second i []) id ids each) in
    λ j. here j ∷ rest j

-- each fact of the slots that stand, from one of each below the bound
each_below : (P : ℕ → Type 0) (n : ℕ) (ids : List ℕ) → AreBelow n ids → ((id : ℕ) → id < n → P id) → All P ids
each_below P n ids below each = λ k d within. each (get_or ids k d) (below k d within)

-- a test of rules and one of slots that agree
pub filter_order : (test : Fields → Bool) (picks : ℕ → Bool) (by_slot : List Fields) (ids : List ℕ) → All (λ (id : ℕ). test (get_or by_slot id []) ≡ picks id) ids
    → filter test (in_order by_slot ids) ≡ in_order by_slot (filter picks ids)
filter_order test picks by_slot [] each = refl
filter_order test picks by_slot (id ∷ ids) each =
    by (test (get_or by_slot id [])) (picks id) (All-head (λ (i : ℕ). test (get_or by_slot i []) ≡ picks i) id ids each)
    (filter_order test picks by_slot ids (All-tail (λ (i : ℕ). test (get_or by_slot i []) ≡ picks i) id ids each))
  where
    by : (a b : Bool) → a ≡ b → filter test (in_order by_slot ids) ≡ in_order by_slot (filter picks ids)
        → cond a (get_or by_slot id [] ∷ filter test (in_order by_slot ids)) (filter test (in_order by_slot ids)) ≡ in_order by_slot (cond b (id ∷ filter picks ids) (filter picks ids))
    by true true e rest = ap (λ (l : List Fields). get_or by_slot id [] ∷ l) rest
    by true false e rest = absurd (true≢false e)
    by false true e rest = absurd (true≢false (sym e))
    by false false e rest = rest

pub first_order : (test : Fields → Bool) (picks : ℕ → Bool) (by_slot : List Fields) (ids : List ℕ) → All (λ (id : ℕ). test (get_or by_slot id []) ≡ picks id) ids
    → position_or_len test (in_order by_slot ids) ≡ position_or_len picks ids
first_order test picks by_slot [] each = refl
first_order test picks by_slot (id ∷ ids) each =
    by (test (get_or by_slot id [])) (picks id) (All-head (λ (i : ℕ). test (get_or by_slot i []) ≡ picks i) id ids each)
    (first_order test picks by_slot ids (All-tail (λ (i : ℕ). test (get_or by_slot i []) ≡ picks i) id ids each))
  where
    by : (a b : Bool) → a ≡ b → position_or_len test (in_order by_slot ids) ≡ position_or_len picks ids
        → cond (not a) (1 + position_or_len test (in_order by_slot ids)) 0 ≡ cond (not b) (1 + position_or_len picks ids) 0
    by true true e rest = refl
    by true false e rest = absurd (true≢false e)
    by false true e rest = absurd (true≢false (sym e))
    by false false e rest = ap (λ n. 1 + n) rest

pub place_order : (test : Fields → Bool) (picks : ℕ → Bool) (by_slot : List Fields) (ids : List ℕ) → All (λ (id : ℕ). test (get_or by_slot id []) ≡ picks id) ids
    → position test (in_order by_slot ids) ≡ position picks ids
place_order test picks by_slot ids each =
    ap (λ n. cond (nat_lt n (length (in_order by_slot ids))) (Some n) None) (first_order test picks by_slot ids each)
    ∙ ap (λ n. cond (nat_lt (position_or_len picks ids) n) (Some (position_or_len picks ids)) None) (length-map ids (λ (id : ℕ). get_or by_slot id []))

any_order : (test : Fields → Bool) (by_slot : List Fields) (ids : List ℕ) → list_any test (in_order by_slot ids) ≡ list_any (λ (id : ℕ). test (get_or by_slot id [])) ids
any_order test by_slot [] = refl
any_order test by_slot (id ∷ ids) = ap (λ b. test (get_or by_slot id []) || b) (any_order test by_slot ids)

-- a rule stands in this slot
pub record HasSlot (rule : Fields) (slot : ℕ) (by_slot : List Fields) : Type 0 where
  pub within : slot < length by_slot
  pub is : get_or by_slot slot [] ≡ rule

-- a rule that stands has the slot where it is first
pub first_slot : (rule : Fields) (by_slot : List Fields) → stands rule by_slot ≡ true → HasSlot rule (position_or_len (same rule) by_slot) by_slot
first_slot rule by_slot some =
    let within = position_or_len-within (same rule) by_slot some in
    record { within = within; is = sym ((same-Decides rule (get_or by_slot (position_or_len (same rule) by_slot) [])).0 (passes_at_first (same rule) by_slot [] within)) }

-- and the search gives it
pub found_slot : (rule : Fields) (slot : ℕ) (by_slot : List Fields) → position (same rule) by_slot ≡ Some slot → HasSlot rule slot by_slot
found_slot rule slot by_slot found =
    let at = position-Some (same rule) by_slot slot [] found in
    record { within = at.0; is = sym ((same-Decides rule (get_or by_slot slot [])).0 at.1) }

pub found_first : (rule : Fields) (by_slot : List Fields) → stands rule by_slot ≡ true → position (same rule) by_slot ≡ Some (position_or_len (same rule) by_slot)
found_first rule by_slot some =
    let i = position_or_len (same rule) by_slot in
    ap (λ b. cond b (Some i) None) (lt-ltb i (length by_slot) (position_or_len-within (same rule) by_slot some))

module _ (by_slot : List Fields) (once : IsDistinct same by_slot) where
  -- of distinct rules one has that slot
  pub same_slot : (rule : Fields) (slot id : ℕ) → HasSlot rule slot by_slot → id < length by_slot → same rule (get_or by_slot id []) ≡ by_id slot id
  same_slot rule slot id has within =
      subst (λ (r : Fields). same r (get_or by_slot id []) ≡ by_id slot id) has.is (by (eqb id slot) refl (nat_lt id slot) refl)
    where
      by : (here : Bool) → eqb id slot ≡ here → (below : Bool) → nat_lt id slot ≡ below → same (get_or by_slot slot []) (get_or by_slot id []) ≡ by_id slot id
      by true e below l =
          ap (same (get_or by_slot slot [])) (ap (λ k. get_or by_slot k []) (eqb-true id slot e)) ∙ (same-Decides (get_or by_slot slot []) (get_or by_slot slot [])).1 refl ∙ sym e
      by false e true l =
          flipped same same-Decides (get_or by_slot slot []) (get_or by_slot id []) ∙ apart_from_distinct same by_slot id slot [] once (ltb-true id slot l) has.within ∙ sym e
      by false e false l =
          let apart : id ≢ slot = eqb-false id slot e in
          let le : slot ≤ id = ltb-false id slot l in
          apart_from_distinct same by_slot slot id [] once (grind arith) within ∙ sym e

  -- the rules of slots without one of them
  pub order_without : (rule : Fields) (slot : ℕ) (ids : List ℕ) → HasSlot rule slot by_slot → AreBelow (length by_slot) ids → in_order by_slot (without by_id slot ids) ≡ without_rule rule (in_order by_slot ids)
  order_without rule slot ids has below =
      sym (filter_order (λ (other : Fields). not (same rule other)) (λ (other : ℕ). not (by_id slot other)) by_slot ids
      (each_below (λ (id : ℕ). not (same rule (get_or by_slot id [])) ≡ not (by_id slot id)) (length by_slot) ids below (λ id within. ap not (same_slot rule slot id has within))))

  -- the place of a rule is that of its slot
  pub place_of : (rule : Fields) (slot : ℕ) (ids : List ℕ) → HasSlot rule slot by_slot → AreBelow (length by_slot) ids → position (same rule) (in_order by_slot ids) ≡ position (λ x. x == slot) ids
  place_of rule slot ids has below =
      place_order (same rule) (by_id slot) by_slot ids (each_below (λ (id : ℕ). same rule (get_or by_slot id []) ≡ by_id slot id) (length by_slot) ids below (λ id within. same_slot rule slot id has within))

  -- what slots show of distinct ones is distinct
  pub distinct_order : (ids : List ℕ) → IsDistinct by_id ids → AreBelow (length by_slot) ids → IsDistinct same (in_order by_slot ids)
  unfolding IsDistinct
  distinct_order [] distinct below = tt
  distinct_order (id ∷ ids) distinct below =
      let here = All-head (λ (i : ℕ). i < length by_slot) id ids below in
      let rest = All-tail (λ (i : ℕ). i < length by_slot) id ids below in
      (apart ids here distinct.0 rest, distinct_order ids distinct.1 rest)
    where
      apart : (xs : List ℕ) → id < length by_slot → AllByRecursion (λ (other : ℕ). by_id id other ≡ false) xs → AreBelow (length by_slot) xs → AllByRecursion (λ (other : Fields). same (get_or by_slot id []) other ≡ false) (in_order by_slot xs)
      apart [] here others within = tt
      apart (x ∷ xs) here others within = (
        same_slot (get_or by_slot id []) id x (record { within = here; is = refl }) (All-head (λ (i : ℕ). i < length by_slot) x xs within) ∙ others.0,
        apart xs here others.1 (All-tail (λ (i : ℕ). i < length by_slot) x xs within),
      )

-- the rules with a slot put between others, where it holds the rule and they theirs
pub put_rows : (old_slots new_slots : List Fields) (ranked : Bool) (rule : Fields) (slot : ℕ) (old new : List ℕ) → IsPut ranked rule old_slots slot old new → get_or new_slots slot [] ≡ rule
    → All (λ (id : ℕ). get_or new_slots id [] ≡ get_or old_slots id []) old → in_order new_slots new ≡ inserted ranked rule (in_order old_slots old)
put_rows old_slots new_slots ranked rule slot old new put here others =
    ap (in_order new_slots) put.is ∙ map-append (λ (id : ℕ). get_or new_slots id []) put.front (slot ∷ put.back)
    ∙ (λ j. front j ++ here j ∷ back j) ∙ sym put.rows
  where
    parts : All (λ (id : ℕ). get_or new_slots id [] ≡ get_or old_slots id []) (put.front ++ put.back)
    parts = subst (λ (l : List ℕ). All (λ (id : ℕ). get_or new_slots id [] ≡ get_or old_slots id []) l) put.was others

    front : in_order new_slots put.front ≡ in_order old_slots put.front
    front = order_same new_slots old_slots put.front (λ k d within. front_of k d within)
      where
        front_of : (k : ℕ) (d : ℕ) → k < length put.front → get_or new_slots (get_or put.front k d) [] ≡ get_or old_slots (get_or put.front k d) []
        front_of k d within =
            subst (λ (id : ℕ). get_or new_slots id [] ≡ get_or old_slots id []) (get_or_append_left put.front put.back d k within)
            (parts k d (omega (arith, within, length-append put.front put.back)))

    back : in_order new_slots put.back ≡ in_order old_slots put.back
    back = order_same new_slots old_slots put.back (λ k d within. back_of k d within)
      where
        back_of : (k : ℕ) (d : ℕ) → k < length put.back → get_or new_slots (get_or put.back k d) [] ≡ get_or old_slots (get_or put.back k d) []
        back_of k d within =
            subst (λ (id : ℕ). get_or new_slots id [] ≡ get_or old_slots id []) (get_or-append-add put.front put.back k d)
            (parts (length put.front + k) d (omega (arith, within, length-append put.front put.back)))

module _ (by_slot : List Fields) (ids : List ℕ) (table : IsTable by_slot ids) where
  pub below : AreBelow (length by_slot) ids
  below = all_below (length by_slot) ids table.order

  -- the rows hold the rules of the slots
  pub stands_order : (rule : Fields) → stands rule (in_order by_slot ids) ≡ stands rule by_slot
  stands_order rule = any_order (same rule) by_slot ids ∙ by (stands rule by_slot) refl
    where
      by : (b : Bool) → stands rule by_slot ≡ b → list_any (λ (id : ℕ). same rule (get_or by_slot id [])) ids ≡ b
      by true some =
          let slot = position_or_len (same rule) by_slot in
          let has = first_slot rule by_slot some in
          any_at (λ (id : ℕ). same rule (get_or by_slot id [])) slot ids (table.order.all slot ∙ lt-ltb slot (length by_slot) has.within)
          (ap (same rule) has.is ∙ (same-Decides rule rule).1 refl)
      by false none =
          list_any_none (λ (id : ℕ). same rule (get_or by_slot id [])) ids
          (each_below (λ (id : ℕ). same rule (get_or by_slot id []) ≡ false) (length by_slot) ids below
          (λ id within. All-get_or (λ (other : Fields). same rule other ≡ false) by_slot id [] within (All-from_recursion (λ (other : Fields). same rule other ≡ false) by_slot (apart_absent same rule by_slot none))))

  pub rows_once : IsDistinct same (in_order by_slot ids)
  rows_once = distinct_order by_slot table.once ids table.order.once below

  pub rows_count : length (in_order by_slot ids) ≡ length by_slot
  rows_count = length-map ids (λ (id : ℕ). get_or by_slot id []) ∙ table.order.count

  pub are_slots : AreSlots by_slot (in_order by_slot ids)
  are_slots = record { once = table.once; count = sym rows_count; all = λ rule. sym (stands_order rule) }

  -- each slot has a place, where its rule stands
  pub slot_stands : (slot : ℕ) → slot < length by_slot → has_id slot ids ≡ true
  slot_stands slot within = table.order.all slot ∙ lt-ltb slot (length by_slot) within

  -- a rule that is put in, in the next slot
  pub pushed_table : (ranked : Bool) (rule : Fields) (new : List ℕ) → IsDistinct same (by_slot ++ rule ∷ []) → IsPut ranked rule by_slot (length by_slot) ids new → IsTable (by_slot ++ rule ∷ []) new
  pushed_table ranked rule new distinct put = record {
    once = distinct;
    order = subst (λ (l : List ℕ). AreAllBelow (length (by_slot ++ rule ∷ [])) l) (sym put.is)
        (subst (λ n. AreAllBelow n (put.front ++ length by_slot ∷ put.back)) (sym (length_push by_slot rule)) (next_put (length by_slot) ids put.front put.back table.order put.was));
  }

  pub pushed_rows : (ranked : Bool) (rule : Fields) (new : List ℕ) → IsPut ranked rule by_slot (length by_slot) ids new → in_order (by_slot ++ rule ∷ []) new ≡ inserted ranked rule (in_order by_slot ids)
  pushed_rows ranked rule new put = put_rows by_slot (by_slot ++ rule ∷ []) ranked rule (length by_slot) ids new put (get_or_push by_slot rule [] (length by_slot) refl)
      (each_below (λ (id : ℕ). get_or (by_slot ++ rule ∷ []) id [] ≡ get_or by_slot id []) (length by_slot) ids below (λ id within. get_or_append_left by_slot (rule ∷ []) [] id within))

-- a test without a place passes none
pub none_found : {T : Type 0} (test : T → Bool) (xs : List T) → position test xs ≡ None → list_any test xs ≡ false
none_found test xs none = by (list_any test xs) refl
  where
    by : (b : Bool) → list_any test xs ≡ b → list_any test xs ≡ false
    by true some =
        let i = position_or_len test xs in
        absurd (none-some i (sym none ∙ ap (λ b. cond b (Some i) None) (lt-ltb i (length xs) (position_or_len-within test xs some))))
    by false e = e

module _ (by_slot : List Fields) (ids : List ℕ) (table : IsTable by_slot ids) where
  -- a rule without a slot has no place
  pub no_place_of : (rule : Fields) → position (same rule) by_slot ≡ None → position (same rule) (in_order by_slot ids) ≡ None
  no_place_of rule none = position_absent same rule (in_order by_slot ids) (stands_order by_slot ids table rule ∙ none_found (same rule) by_slot none)

  -- the place of a slot
  pub slot_has_place : (slot : ℕ) → slot < length by_slot → position (λ x. x == slot) ids ≡ None → ⊥
  slot_has_place slot within none = true≢false (sym (slot_stands by_slot ids table slot within) ∙ none_found (λ x. x == slot) ids none)

  pub place_within : (slot place : ℕ) → position (λ x. x == slot) ids ≡ Some place → place < length (in_order by_slot ids)
  place_within slot place found = omega (arith, (position-Some (λ x. x == slot) ids place 0 found).0, length-map ids (λ (id : ℕ). get_or by_slot id []))

  pub place_shows : (slot place : ℕ) → slot < length by_slot → position (λ x. x == slot) ids ≡ Some place → slice_get (in_order by_slot ids) place ≡ slice_get by_slot slot
  place_shows slot place within found =
      let at = position-Some (λ x. x == slot) ids place 0 found in
      slice_get-get_or (in_order by_slot ids) place [] (place_within slot place found)
      ∙ ap Some (get_or-map (λ (id : ℕ). get_or by_slot id []) ids place 0 [] at.0 ∙ ap (λ id. get_or by_slot id []) (sym ((by_id-Decides slot (get_or ids place 0)).0 at.1)))
      ∙ sym (slice_get-get_or by_slot slot [] within)

  -- the slot of a place
  pub has_slot_at : (place : ℕ) → place < length (in_order by_slot ids) → slice_get ids place ≡ None → ⊥
  has_slot_at place within none =
      none-some (get_or ids place 0) (sym none ∙ slice_get-get_or ids place 0 (omega (arith, within, length-map ids (λ (id : ℕ). get_or by_slot id []))))

  pub slot_within : (place slot : ℕ) → slice_get ids place ≡ Some slot → slot < length by_slot
  slot_within place slot shown = subst (λ n. n < length by_slot) (get_or_from_slice_get ids place slot 0 shown) (all_below (length by_slot) ids table.order place 0 (slice_get_within ids place slot shown))

  pub slot_shows : (place slot : ℕ) → slice_get ids place ≡ Some slot → slice_get by_slot slot ≡ slice_get (in_order by_slot ids) place
  slot_shows place slot shown =
      let within = slice_get_within ids place slot shown in
      slice_get-get_or by_slot slot [] (slot_within place slot shown)
      ∙ ap Some (ap (λ id. get_or by_slot id []) (sym (get_or_from_slice_get ids place slot 0 shown)) ∙ sym (get_or-map (λ (id : ℕ). get_or by_slot id []) ids place 0 [] within))
      ∙ sym (slice_get-get_or (in_order by_slot ids) place [] (omega (arith, within, length-map ids (λ (id : ℕ). get_or by_slot id []))))

-- no rules have no slots
pub empty_table : (by_slot : List Fields) (ids : List ℕ) → by_slot ≡ [] → ids ≡ [] → IsTable by_slot ids
unfolding IsDistinct
empty_table by_slot ids no_slots no_ids =
    subst (λ (l : List Fields). IsTable l ids) (sym no_slots) (subst (λ (l : List ℕ). IsTable [] l) (sym no_ids)
    (record { once = tt; order = record { all = λ id. sym (le-ltb id 0 (omega arith)); once = tt; count = refl } }))

-- what is left when the first of the rows is told
pub first_row : (by_slot : List Fields) (id : ℕ) (ids left : List ℕ) → left ≡ id ∷ ids → AreBelow (length by_slot) left → (id < length by_slot) × AreBelow (length by_slot) ids × (in_order by_slot left ≡ get_or by_slot id [] ∷ in_order by_slot ids)
first_row by_slot id ids left parts below =
    let all = subst (λ (l : List ℕ). AreBelow (length by_slot) l) parts below in
    (All-head (λ (i : ℕ). i < length by_slot) id ids all, All-tail (λ (i : ℕ). i < length by_slot) id ids all, ap (in_order by_slot) parts)
