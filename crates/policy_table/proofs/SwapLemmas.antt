-- Tables from which a rule is taken, or where a new one comes for an old one.
use Rattle.std.proofs.Common.{◌≡◌, ◌≢◌, ℕ, ◌-◌, ◌<◌, Bool, true, false, not, List, [], ◌∷◌, length, get_or, set, take, position, Some, Option, All, refl, sym, ap, subst, ◌∙◌, true≢false, arith}
use Rattle.std.specs.Prelude.{if◌then◌else◌}
use Rattle.std.specs.List.{IsDistinct, swap_remove}
use Rattle.std.specs.Option.{option_map_or}
use Rattle.std.proofs.lemmas.Bool.{eqb-false}
use Rattle.std.proofs.lemmas.List.{get_or-map, get_or-set_other, get_or-set_same, get_or-take, get_or_default, length-map, length-set, length-take-le}
use Rattle.std.proofs.lemmas.List.Elements.{All-head, All-tail, filter_passes}
use Rattle.indexmap.specs.IndexMap.{swap_remove_by}
use Rattle.policy_table.specs.Changes.{in_place, inserted, without as without_rule}
use Rattle.policy_table.specs.Helps.Orders.{AreAllBelow, AreBelow, IsPut, IsTable, by_id, in_order}
use Rattle.policy_table.specs.Tables.{Fields, same}
use Rattle.policy_table.proofs.OrderLemmas.{all_below, by_id-Decides, last_renamed, left_below, same_put}
use Rattle.policy_table.proofs.RowLemmas.{renamed, without}
use Rattle.policy_table.proofs.SlotLemmas.{HasSlot, order_without, put_rows, same_slot}

-- where the slot is found, the last rule comes into it
pub found_swap : (test : Fields → Bool) (by_slot : List Fields) (slot : ℕ) → position test by_slot ≡ Some slot → swap_remove_by test by_slot ≡ swap_remove by_slot slot []
found_swap test [] slot found = absurd cc
found_swap test (x ∷ xs) slot found =
    ap (λ (o : Option ℕ). option_map_or (λ i. swap_remove (x ∷ xs) i x) o (x ∷ xs)) found
    ∙ ap (λ (y : Fields). take (length (x ∷ xs) - 1) (set (x ∷ xs) slot y)) (get_or_default (x ∷ xs) (length (x ∷ xs) - 1) x [] (omega arith))

-- one slot is gone then
pub length_swap : (by_slot : List Fields) (slot : ℕ) → slot < length by_slot → length (swap_remove by_slot slot []) ≡ length by_slot - 1
length_swap by_slot slot within = length-take-le (length by_slot - 1) (set by_slot slot (get_or by_slot (length by_slot - 1) [])) (omega (arith, within, length-set by_slot slot (get_or by_slot (length by_slot - 1) [])))

-- what the slots hold then
swapped_here : (by_slot : List Fields) (slot : ℕ) → slot < length by_slot - 1 → get_or (swap_remove by_slot slot []) slot [] ≡ get_or by_slot (length by_slot - 1) []
swapped_here by_slot slot within =
    get_or-take (length by_slot - 1) (set by_slot slot (get_or by_slot (length by_slot - 1) [])) slot [] within
    ∙ get_or-set_same by_slot slot (get_or by_slot (length by_slot - 1) []) [] (omega (arith, within))

swapped_there : (by_slot : List Fields) (slot id : ℕ) → id < length by_slot - 1 → id ≢ slot → get_or (swap_remove by_slot slot []) id [] ≡ get_or by_slot id []
swapped_there by_slot slot id within apart =
    get_or-take (length by_slot - 1) (set by_slot slot (get_or by_slot (length by_slot - 1) [])) id [] within
    ∙ get_or-set_other by_slot slot id (get_or by_slot (length by_slot - 1) []) [] apart

-- the slots that are left, the last under its new name, show the same rules
order_swapped : (by_slot : List Fields) (slot : ℕ) (ids : List ℕ) → slot < length by_slot → All (λ (id : ℕ). id < length by_slot) ids → All (λ (id : ℕ). not (by_id slot id) ≡ true) ids
    → in_order (swap_remove by_slot slot []) (renamed by_id (length by_slot - 1) slot ids) ≡ in_order by_slot ids
order_swapped by_slot slot [] here below apart = refl
order_swapped by_slot slot (id ∷ ids) here below apart =
    (λ j. first j ∷ order_swapped by_slot slot ids here (All-tail (λ (i : ℕ). i < length by_slot) id ids below) (All-tail (λ (i : ℕ). not (by_id slot i) ≡ true) id ids apart) j)
  where
    within : id < length by_slot
    within = All-head (λ (i : ℕ). i < length by_slot) id ids below

    other : id ≢ slot
    other = λ e. absurd (true≢false (sym (All-head (λ (i : ℕ). not (by_id slot i) ≡ true) id ids apart) ∙ ap not ((by_id-Decides slot id).1 (sym e))))

    nearer : (n s k : ℕ) → s < n → n - 1 ≡ k → k ≢ s → s < n - 1
    nearer n s k low last apart = let differs : s ≢ k = λ e. apart (sym e) in grind arith

    below_last : (n k : ℕ) → k < n → k ≢ n - 1 → k < n - 1
    below_last n k low apart = grind arith

    by : (b : Bool) → by_id (length by_slot - 1) id ≡ b → get_or (swap_remove by_slot slot []) (if b then slot else id) [] ≡ get_or by_slot id []
    by true e =
        let last : length by_slot - 1 ≡ id = (by_id-Decides (length by_slot - 1) id).0 e in
        swapped_here by_slot slot (nearer (length by_slot) slot id here last other) ∙ ap (λ k. get_or by_slot k []) last
    by false e = swapped_there by_slot slot id (below_last (length by_slot) id within (eqb-false id (length by_slot - 1) e)) other

    first : get_or (swap_remove by_slot slot []) (if by_id (length by_slot - 1) id then slot else id) [] ≡ get_or by_slot id []
    first = by (by_id (length by_slot - 1) id) refl

module _ (by_slot : List Fields) (ids : List ℕ) (table : IsTable by_slot ids) (rule : Fields) (slot : ℕ) (has : HasSlot rule slot by_slot) where
  below : AreBelow (length by_slot) ids
  below = all_below (length by_slot) ids table.order

  abbrev left : List ℕ
  left = without by_id slot ids

  -- a rule is taken out
  pub taken_rows : in_order (swap_remove by_slot slot []) (renamed by_id (length by_slot - 1) slot (without by_id slot ids)) ≡ without_rule rule (in_order by_slot ids)
  taken_rows =
      order_swapped by_slot slot left has.within (left_below (length by_slot) slot ids table.order) (filter_passes (λ (other : ℕ). not (by_id slot other)) ids)
      ∙ order_without by_slot table.once rule slot ids has below

  pub taken_table : IsDistinct same (swap_remove by_slot slot []) → IsTable (swap_remove by_slot slot []) (renamed by_id (length by_slot - 1) slot (without by_id slot ids))
  taken_table once = record {
    once = once;
    order = subst (λ n. AreAllBelow n (renamed by_id (length by_slot - 1) slot (without by_id slot ids))) (sym (length_swap by_slot slot has.within)) (last_renamed (length by_slot) slot ids table.order has.within);
  }

  module _ (new : Fields) where
    -- what the slots hold with a new rule for it
    held : (id : ℕ) → id < length by_slot → get_or (in_place rule new by_slot) id [] ≡ (if by_id slot id then new else get_or by_slot id [])
    held id within =
        get_or-map (λ (other : Fields). if same rule other then new else other) by_slot id [] [] within
        ∙ ap (λ (b : Bool). if b then new else get_or by_slot id []) (same_slot by_slot table.once rule slot id has within)

    -- in its place
    pub placed_rows : in_order (in_place rule new by_slot) ids ≡ in_place rule new (in_order by_slot ids)
    placed_rows = by ids below
      where
        by : (xs : List ℕ) → AreBelow (length by_slot) xs → in_order (in_place rule new by_slot) xs ≡ in_place rule new (in_order by_slot xs)
        by [] within = refl
        by (id ∷ xs) within =
            let here = get_or-map (λ (other : Fields). if same rule other then new else other) by_slot id [] [] (All-head (λ (i : ℕ). i < length by_slot) id xs within) in
            let rest = by xs (All-tail (λ (i : ℕ). i < length by_slot) id xs within) in
            λ j. here j ∷ rest j

    pub placed_table : IsDistinct same (in_place rule new by_slot) → IsTable (in_place rule new by_slot) ids
    placed_table once = record { once = once; order = subst (λ n. AreAllBelow n ids) (sym (length-map by_slot (λ (other : Fields). if same rule other then new else other))) table.order }

    -- or where its rank belongs
    module _ (order : List ℕ) (put : IsPut true new by_slot slot (without by_id slot ids) order) where
      pub moved_rows : in_order (in_place rule new by_slot) order ≡ inserted true new (without_rule rule (in_order by_slot ids))
      moved_rows =
          put_rows by_slot (in_place rule new by_slot) true new slot left order put (held slot has.within ∙ ap (λ (b : Bool). if b then new else get_or by_slot slot []) ((by_id-Decides slot slot).1 refl))
          (λ k d within. other_held (get_or left k d) (left_below (length by_slot) slot ids table.order k d within) (filter_passes (λ (other : ℕ). not (by_id slot other)) ids k d within))
          ∙ ap (inserted true new) (order_without by_slot table.once rule slot ids has below)
        where
          not_true : (b : Bool) → not b ≡ true → b ≡ false
          not_true true e = absurd (true≢false (sym e))
          not_true false e = refl

          other_held : (id : ℕ) → id < length by_slot → not (by_id slot id) ≡ true → get_or (in_place rule new by_slot) id [] ≡ get_or by_slot id []
          other_held id within apart = held id within ∙ ap (λ (b : Bool). if b then new else get_or by_slot id []) (not_true (by_id slot id) apart)

      pub moved_table : IsDistinct same (in_place rule new by_slot) → IsTable (in_place rule new by_slot) order
      moved_table once = record {
        once = once;
        order = subst (λ n. AreAllBelow n order) (sym (length-map by_slot (λ (other : Fields). if same rule other then new else other)))
            (subst (λ (l : List ℕ). AreAllBelow (length by_slot) l) (sym put.is) (same_put (length by_slot) slot ids put.front put.back table.order has.within put.was));
      }
