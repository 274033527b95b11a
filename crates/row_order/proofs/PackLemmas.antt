-- how cells are packed
use Rattle.std.proofs.Common.{◌≡◌, ◌≢◌, ℕ, ◌+◌, ◌*◌, ◌^◌, ◌<◌, ◌≤◌, List, length, get_or, set, take, Option, Some, None, refl, sym, ap, arith, add-one, ◌∙◌, inl, inr}
use Rattle.std.proofs.lemmas.Bool.{cases_eq, cases_lt}
use Rattle.std.proofs.lemmas.List.{length-set, get_or-set_same, get_or-set_other, take-set-le}
use Rattle.row_order.specs.Helps.Cells.{live, spaced, IsCounted, IsPlaced, IsEmptyFrom, IsKept}
use Rattle.row_order.proofs.CellLemmas.{count_some, live_tail, moved_front, moved_back}
use Rattle.row_order.proofs.PlacedLemmas.{placed_put, placed_cleared, none_cleared}

-- the cells while their ids move to the front: those before `to` stand, those up to `from` are empty
pub record IsGathering (original cells : List (Option ℕ)) (cell_of : List ℕ) (tail to from : ℕ) : Type 0 where
  pub upto : to ≤ from
  pub gap : (k : ℕ) → to ≤ k → k < from → get_or cells k None ≡ None
  pub dense : to ≡ length (live (take to cells))
  pub same : live cells ≡ live original
  pub placed : IsPlaced cells cell_of
  pub ended : IsEmptyFrom cells tail
  pub len : length cells ≡ length original
  pub within : tail ≤ length cells
  pub small : length cells < 2 ^ 32

pub gathering_starts : {cells : List (Option ℕ)} {cell_of : List ℕ} {tail : ℕ} → IsPlaced cells cell_of → IsEmptyFrom cells tail → tail ≤ length cells → length cells < 2 ^ 32 →
    IsGathering cells cells cell_of tail 0 0
gathering_starts placed ended within small = record {
  upto = omega arith;
  gap = λ k a b. absurd (omega arith);
  dense = refl;
  same = refl;
  placed = placed;
  ended = ended;
  len = refl;
  within = within;
  small = small;
}

pub gathering_skips : {original cells : List (Option ℕ)} {cell_of : List ℕ} {tail to from : ℕ} → IsGathering original cells cell_of tail to from →
    get_or cells from None ≡ None → IsGathering original cells cell_of tail to (from + 1)
gathering_skips {original} {cells} {cell_of} {tail} {to} {from} p h = record {
  upto = omega (arith, p.upto);
  gap = λ k a b. elim (cases_eq k from) [ inl e ↦ rw e h | inr ne ↦ p.gap k a (omega arith) ];
  dense = p.dense;
  same = p.same;
  placed = p.placed;
  ended = p.ended;
  len = p.len;
  within = p.within;
  small = p.small;
}

pub gathering_moves : {original cells : List (Option ℕ)} {cell_of : List ℕ} {tail to from : ℕ} → IsGathering original cells cell_of tail to from →
    (id : ℕ) → from < tail → get_or cells from None ≡ Some id →
    IsGathering original (set (set cells from None) to (Some id)) (set cell_of id to) tail (to + 1) (from + 1)
gathering_moves {original} {cells} {cell_of} {tail} {to} {from} p id l h =
    let in_cells : to < length (set cells from None) = omega (arith, p.upto, p.within, length-set cells from None) in
    let here : get_or (set (set cells from None) to (Some id)) to None ≡ Some id = get_or-set_same (set cells from None) to (Some id) None in_cells in
    let front : take to (set (set cells from None) to (Some id)) ≡ take to cells =
    take-set-le to (set cells from None) to (Some id) (omega arith) ∙ take-set-le to cells from None p.upto in
    record {
      upto = omega (arith, p.upto);
      gap = λ k a b. (let ne : k ≢ to = omega arith in get_or-set_other (set cells from None) to k (Some id) None ne ∙
          elim (cases_eq k from) as (λ _. get_or (set cells from None) k None ≡ None) [
            | inl e ↦ rw e (get_or-set_same cells from None None (omega (arith, p.within)))
            | inr other ↦ get_or-set_other cells from k None None other ∙ p.gap k (omega arith) (omega arith)
          ]);
      dense = rw add-one (omega (arith, count_some (set (set cells from None) to (Some id)) to id here, ap (λ xs. length (live xs)) front, p.dense));
      same = moved_front cells from to id h p.upto p.gap ∙ p.same;
      placed = placed_put (placed_cleared p.placed from) to id in_cells (p.placed.within from id h) (none_cleared p.placed from id h);
      ended = record {
        empty = λ k m. (let ne : k ≢ to = omega (arith, p.upto) in let other : k ≢ from = omega arith in
            get_or-set_other (set cells from None) to k (Some id) None ne ∙ (get_or-set_other cells from k None None other ∙ p.ended.empty k m));
      };
      len = length-set (set cells from None) to (Some id) ∙ (length-set cells from None ∙ p.len);
      within = omega (arith, p.within, length-set cells from None, length-set (set cells from None) to (Some id));
      small = omega (arith, p.small, length-set cells from None, length-set (set cells from None) to (Some id));
    }

pub gathering_ends : {original cells : List (Option ℕ)} {cell_of : List ℕ} {tail to from : ℕ} → IsGathering original cells cell_of tail to from → tail ≤ from →
    IsEmptyFrom cells to
gathering_ends {original} {cells} {cell_of} {tail} {to} {from} p l = record {
  empty = λ k m. elim (cases_lt k from) [ inl below ↦ p.gap k m below | inr past ↦ p.ended.empty k (omega arith) ];
}

pub gathering_counts : {original cells : List (Option ℕ)} {cell_of : List ℕ} {tail to from : ℕ} → IsGathering original cells cell_of tail to from → tail ≤ from →
    to ≡ length (live original)
gathering_counts {original} {cells} {cell_of} {tail} {to} {from} p l =
    p.dense ∙ ap length (live_tail cells to (gathering_ends p l).empty ∙ p.same)

-- the cells while the ids of the first `count` move apart, from the last one: those before `at` are as they were
pub record IsSpacing (original cells : List (Option ℕ)) (cell_of : List ℕ) (count at : ℕ) : Type 0 where
  pub upto : at ≤ count
  pub gap : (k : ℕ) → at ≤ k → k < spaced at → get_or cells k None ≡ None
  pub same : live cells ≡ live original
  pub placed : IsPlaced cells cell_of
  pub ended : IsEmptyFrom cells (spaced count)
  pub len : length cells ≡ length original
  pub room : 2 * count ≤ length cells
  pub small : length cells < 2 ^ 32

pub spacing_starts : {cells : List (Option ℕ)} {cell_of : List ℕ} {count : ℕ} → IsPlaced cells cell_of → IsEmptyFrom cells count → 2 * count ≤ length cells → length cells < 2 ^ 32 →
    IsSpacing cells cells cell_of count count
spacing_starts placed ended room small = record {
  upto = omega arith;
  gap = λ k a b. ended.empty k a;
  same = refl;
  placed = placed;
  ended = record { empty = λ k a. ended.empty k (omega arith) };
  len = refl;
  room = room;
  small = small;
}

pub spacing_skips : {original cells : List (Option ℕ)} {cell_of : List ℕ} {count at next : ℕ} → IsSpacing original cells cell_of count at → at ≡ next + 1 →
    get_or cells next None ≡ None → IsSpacing original cells cell_of count next
spacing_skips {original} {cells} {cell_of} {count} {at} {next} p is h = record {
  upto = omega (arith, p.upto);
  gap = λ k a b. elim (cases_eq k next) [ inl e ↦ rw e h | inr ne ↦ p.gap k (omega arith) (omega arith) ];
  same = p.same;
  placed = p.placed;
  ended = p.ended;
  len = p.len;
  room = p.room;
  small = p.small;
}

pub spacing_moves : {original cells : List (Option ℕ)} {cell_of : List ℕ} {count at next : ℕ} → IsSpacing original cells cell_of count at → at ≡ next + 1 →
    (id : ℕ) → get_or cells next None ≡ Some id →
    IsSpacing original (set (set cells next None) (spaced next) (Some id)) (set cell_of id (spaced next)) count next
spacing_moves {original} {cells} {cell_of} {count} {at} {next} p is id h =
    let to : ℕ = spaced next in
    let in_cells : spaced next < length (set cells next None) = omega (arith, p.upto, p.room, length-set cells next None) in
    record {
      upto = omega (arith, p.upto);
      gap = λ k a b. (let ne : k ≢ spaced next = omega arith in get_or-set_other (set cells next None) (spaced next) k (Some id) None ne ∙
          elim (cases_eq k next) as (λ _. get_or (set cells next None) k None ≡ None) [
            | inl e ↦ rw e (get_or-set_same cells next None None (omega (arith, p.upto, p.room)))
            | inr other ↦ get_or-set_other cells next k None None other ∙ p.gap k (omega arith) (omega arith)
          ]);
      same = moved_back cells next (spaced next) id h (omega arith) (omega (arith, in_cells, length-set cells next None)) (λ k a b. p.gap k (omega arith) (omega arith)) ∙ p.same;
      placed = placed_put (placed_cleared p.placed next) (spaced next) id in_cells (p.placed.within next id h) (none_cleared p.placed next id h);
      ended = record {
        empty = λ k m. (let ne : k ≢ spaced next = omega (arith, p.upto) in let other : k ≢ next = omega (arith, p.upto) in
            get_or-set_other (set cells next None) (spaced next) k (Some id) None ne ∙ (get_or-set_other cells next k None None other ∙ p.ended.empty k m));
      };
      len = length-set (set cells next None) (spaced next) (Some id) ∙ (length-set cells next None ∙ p.len);
      room = omega (arith, p.room, length-set cells next None, length-set (set cells next None) (spaced next) (Some id));
      small = omega (arith, p.small, length-set cells next None, length-set (set cells next None) (spaced next) (Some id));
    }

pub kept_packed : {cells packed : List (Option ℕ)} {cell_of rank before cells_of ranks befores : List ℕ} {tail count to : ℕ} → IsKept cells cell_of rank before tail count →
    length cells_of ≡ length cell_of → length packed ≡ length cells → live packed ≡ live cells → IsCounted packed ranks befores to → IsPlaced packed cells_of → IsEmptyFrom packed to →
    IsKept packed cells_of ranks befores to count
kept_packed kept slots len same counted placed ended = record {
  counted = counted;
  placed = placed;
  ended = ended;
  wide = omega (arith, kept.wide, slots, len);
  counts = kept.counts ∙ sym (ap length same);
  few = omega (arith, kept.few, slots);
}
