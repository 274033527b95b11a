-- how ids are carried on, from a cell to the next empty one
use Rattle.std.proofs.Common.{◌≡◌, ◌≢◌, ℕ, suc, ◌+◌, ◌<◌, ◌≤◌, ◌==◌, List, [], ◌∷◌, ◌++◌, length, get_or, set, take, drop, Option, Some, None, refl, sym, ap, arith, add-one, ◌∙◌, position, inl, inr}
use Rattle.std.proofs.lemmas.Bool.{cases_eq}
use Rattle.std.proofs.lemmas.List.{length-set, get_or-set_same, get_or-set_other, length-append}
use Rattle.row_order.specs.Helps.Cells.{live, IsCounted, IsEmptyFrom, IsKept, IsCarried}
use Rattle.row_order.proofs.CellLemmas.{marked_high, swapped_counts, carried_ids, landed_ids, insert_ids, count_step, put_end, live_tail}
use Rattle.row_order.proofs.PlacedLemmas.{one_cell, placed_put, new_in_cells}
use Rattle.row_order.proofs.KeptLemmas.{tail_count}

pub carried_step : {old new : List (Option ℕ)} {old_of new_of : List ℕ} {tail start at id carried : ℕ} → IsCarried old new old_of new_of tail start at id carried → (next : ℕ) →
    at < tail → get_or new at None ≡ Some next → IsCarried old (set new at (Some carried)) old_of (set new_of carried at) tail start (at + 1) id next
carried_step {old} {new} {old_of} {new_of} {tail} {start} {at} {id} {carried} p next l h =
    let in_cells : at < length new = omega (arith, p.within) in
    record {
      low = omega (arith, p.low);
      high = omega arith;
      within = omega (arith, p.within, length-set new at (Some carried));
      small = omega (arith, p.small, length-set new at (Some carried));
      len = length-set new at (Some carried) ∙ p.len;
      slots = length-set new_of carried at ∙ p.slots;
      placed = placed_put p.placed at carried in_cells p.fits p.apart;
      ended = record { empty = λ k m. (let ne : k ≢ at = omega arith in get_or-set_other new at k (Some carried) None ne ∙ p.ended.empty k m) };
      fits = omega (arith, length-set new_of carried at, p.placed.within at next h);
      apart = λ k g. elim (cases_eq k at) [
        | inl e ↦ (let here : get_or (set new at (Some carried)) k None ≡ Some carried = rw e (get_or-set_same new at (Some carried) None in_cells) in
            let same : Some carried ≡ Some next = sym here ∙ g in p.apart at (h ∙ sym same))
        | inr ne ↦ ne (one_cell p.placed at next h k (sym (get_or-set_other new at k (Some carried) None ne) ∙ g))
      ];
      counts = λ k. swapped_counts new at k next carried h ∙ p.counts k;
      ids = rw add-one (carried_ids new at next carried h ∙ p.ids);
    }

pub carried_start : {cells : List (Option ℕ)} {cell_of rank before : List ℕ} {tail count : ℕ} → IsKept cells cell_of rank before tail count → (cell id : ℕ) → cell < tail →
    tail < length cells → id < length cell_of → position (λ y. y == id) (live cells) ≡ None → IsCarried cells cells cell_of cell_of tail cell cell id id
carried_start kept cell id l m fits new = record {
  low = omega arith;
  high = omega arith;
  within = m;
  small = kept.counted.small;
  len = refl;
  slots = refl;
  placed = kept.placed;
  ended = kept.ended;
  fits = fits;
  apart = new_in_cells kept.placed id new;
  counts = λ k. refl;
  ids = refl;
}

pub counted_same : {old new : List (Option ℕ)} {old_of new_of rank before : List ℕ} {tail start at id carried : ℕ} → IsCarried old new old_of new_of tail start at id carried →
    IsCounted old rank before tail → IsCounted new rank before tail
counted_same p counted = record {
  ranks = counted.ranks ∙ sym p.len;
  blocks = omega (arith, p.len, counted.blocks);
  within = omega (arith, p.len, counted.within);
  small = p.small;
  counted = λ c m. counted.counted c m ∙ sym (p.counts c);
  starts = counted.starts;
}

pub carried_count : {old new : List (Option ℕ)} {old_of new_of rank before : List ℕ} {tail start at id carried count : ℕ} → IsCarried old new old_of new_of tail start at id carried →
    IsKept old old_of rank before tail count → count ≡ length (live (take tail new))
carried_count {old} {new} {old_of} {new_of} {rank} {before} {tail} p kept = tail_count kept ∙ sym (p.counts tail)

pub inserted_kept : {old new : List (Option ℕ)} {old_of new_of rank before ranks befores : List ℕ} {tail start at id carried count : ℕ} →
    IsCarried old new old_of new_of tail start at id carried → IsKept old old_of rank before tail count → length (live old) < length old_of →
    get_or new at None ≡ None → at < tail → IsCounted (set new at (Some carried)) ranks befores tail → IsKept (set new at (Some carried)) (set new_of carried at) ranks befores tail (count + 1)
inserted_kept {old} {new} {old_of} {new_of} {rank} {before} {ranks} {befores} {tail} {start} {at} {id} {carried} {count} p kept room h l counted =
    let in_cells : at < length new = omega (arith, p.within) in
    let ended : IsEmptyFrom (set new at (Some carried)) tail =
    record { empty = λ k m. (let ne : k ≢ at = omega arith in get_or-set_other new at k (Some carried) None ne ∙ p.ended.empty k m) } in
    record {
      counted = counted;
      placed = placed_put p.placed at carried in_cells p.fits p.apart;
      ended = ended;
      wide = omega (arith, kept.wide, p.len, p.slots, length-set new at (Some carried), length-set new_of carried at);
      counts = omega (arith, carried_count p kept, marked_high new at tail carried in_cells h l, ap length (live_tail (set new at (Some carried)) tail ended.empty));
      few = omega (arith, kept.counts, room, p.slots, length-set new_of carried at);
    }

pub inserted_last : {old new : List (Option ℕ)} {old_of new_of rank before ranks befores : List ℕ} {tail start id carried count : ℕ} →
    IsCarried old new old_of new_of tail start tail id carried → IsKept old old_of rank before tail count → length (live old) < length old_of →
    IsCounted (set new tail (Some carried)) ranks befores (tail + 1) → IsKept (set new tail (Some carried)) (set new_of carried tail) ranks befores (tail + 1) (count + 1)
inserted_last {old} {new} {old_of} {new_of} {rank} {before} {ranks} {befores} {tail} {start} {id} {carried} {count} p kept room counted = record {
  counted = counted;
  placed = placed_put p.placed tail carried p.within p.fits p.apart;
  ended = record { empty = λ k m. (let ne : k ≢ tail = omega arith in get_or-set_other new tail k (Some carried) None ne ∙ p.ended.empty k (omega arith)) };
  wide = omega (arith, kept.wide, p.len, p.slots, length-set new tail (Some carried), length-set new_of carried tail);
  counts = omega (
    arith,
    carried_count p kept,
    ap length (live_tail new tail p.ended.empty),
    ap length (put_end new tail carried p.within p.ended.empty),
    length-append (live new) (carried ∷ []),
  );
  few = omega (arith, kept.counts, room, p.slots, length-set new_of carried tail);
}

pub inserted_ids : {old new : List (Option ℕ)} {old_of new_of : List ℕ} {tail start at id carried : ℕ} →
    IsCarried old new old_of new_of tail start at id carried → (place : ℕ) → get_or new at None ≡ None →
    length (live (take start old)) ≤ place → place < length (live (take (start + 1) old)) →
    live (set new at (Some carried)) ≡ take place (live old) ++ id ∷ drop place (live old)
inserted_ids {old} {new} {old_of} {new_of} {tail} {start} {at} {id} {carried} p place h low high =
    let upper : place < length (live (take (suc start) old)) = rw add-one at high in
    let exact : length (live (take start old)) ≡ place = omega (arith, count_step old start) in
    landed_ids new at carried (omega (arith, p.high, p.within)) h ∙ (p.ids ∙ insert_ids old start place id exact)
