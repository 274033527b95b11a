-- what the counts of cells keep
use Rattle.std.proofs.Common.{◌≡◌, ◌≢◌, ℕ, suc, ◌+◌, ◌*◌, ◌/◌, ◌%◌, ◌^◌, ◌-◌, ◌<◌, ◌≤◌, List, length, get_or, set, take, Option, Some, None, refl, sym, ap, arith, ◌∙◌, min, inl, inr}
use Rattle.std.proofs.lemmas.Bool.{cases_eq, cases_lt}
use Rattle.std.proofs.lemmas.List.{length-set, get_or-set_same, get_or-set_other, take-set-le}
use Rattle.row_order.specs.Helps.Cells.{live, IsCounted, IsEmptyFrom, IsLowered, IsRaised, IsOpened}
use Rattle.row_order.proofs.CellLemmas.{count_le, count_mono, count_some, cleared_high, marked_high, live_tail}

-- a cell is emptied
pub rank_positive : {cells : List (Option ℕ)} {rank before : List ℕ} {tail : ℕ} → IsCounted cells rank before tail → (cell x : ℕ) → cell < tail → get_or cells cell None ≡ Some x →
    (k : ℕ) → cell + 1 ≤ k → k < min (512 * (cell / 512) + 512) tail → 0 < get_or rank k 0
rank_positive {cells} {rank} {before} {tail} counted cell x l h k a b =
    let block : k / 512 ≡ cell / 512 = omega arith in
    let here : get_or before (cell / 512) 0 + get_or rank k 0 ≡ length (live (take k cells)) = rw block at (counted.counted k (omega arith)) in
    omega (arith, here, counted.counted cell l, count_some cells cell x h, count_mono cells (suc cell) k (omega arith))

pub before_positive : {cells : List (Option ℕ)} {rank before : List ℕ} {tail : ℕ} → IsCounted cells rank before tail → (cell x : ℕ) → cell < tail → get_or cells cell None ≡ Some x →
    (b : ℕ) → cell / 512 + 1 ≤ b → b < (tail + 511) / 512 → 0 < get_or before b 0
before_positive {cells} {rank} {before} {tail} counted cell x l h b low high =
    let within : 512 * b < tail = omega arith in
    let block : 512 * b / 512 ≡ b = omega arith in
    let here : get_or before b 0 + get_or rank (512 * b) 0 ≡ length (live (take (512 * b) cells)) = rw block at (counted.counted (512 * b) within) in
    omega (arith, here, counted.starts b within, count_some cells cell x h, count_mono cells (suc cell) (512 * b) (omega arith))

pub cleared : {cells : List (Option ℕ)} {rank before ranks befores : List ℕ} {tail : ℕ} → IsCounted cells rank before tail → (cell x : ℕ) → cell < tail → get_or cells cell None ≡ Some x →
    IsLowered rank ranks (cell + 1) (min (512 * (cell / 512) + 512) tail) → IsLowered before befores (cell / 512 + 1) ((tail + 511) / 512) →
    IsCounted (set cells cell None) ranks befores tail
cleared {cells} {rank} {before} {ranks} {befores} {tail} counted cell x l h low lows = record {
  ranks = omega (arith, low.len, counted.ranks, length-set cells cell None);
  blocks = omega (arith, lows.len, counted.blocks, length-set cells cell None);
  within = omega (arith, counted.within, length-set cells cell None);
  small = omega (arith, counted.small, length-set cells cell None);
  counted = λ c m. elim (cases_lt cell c) [
    | inl above ↦ elim (cases_eq (c / 512) (cell / 512)) [
      | inl same ↦ omega (arith, counted.counted c m, cleared_high cells cell c x h above, low.lowered c (omega arith) (omega arith), lows.front (c / 512) (omega arith))
      | inr other ↦ omega (arith, counted.counted c m, cleared_high cells cell c x h above, low.back c (omega arith), lows.lowered (c / 512) (omega arith) (omega arith))
    ]
    | inr below ↦ rw (take-set-le c cells cell None below) (omega (arith, counted.counted c m, low.front c (omega arith), lows.front (c / 512) (omega arith)))
  ];
  starts = λ b m. elim (cases_lt (512 * b) (cell + 1)) [
    | inl below ↦ low.front (512 * b) below ∙ counted.starts b m
    | inr above ↦ low.back (512 * b) (omega arith) ∙ counted.starts b m
  ];
}

-- an id is put into an empty cell between others
pub rank_small : {cells : List (Option ℕ)} {rank before : List ℕ} {tail : ℕ} → IsCounted cells rank before tail → (k : ℕ) → k < tail → get_or rank k 0 + 1 < 2 ^ 32
rank_small {cells} {rank} {before} {tail} counted k l = omega (arith, counted.counted k l, count_le cells k, counted.within, counted.small)

pub before_small : {cells : List (Option ℕ)} {rank before : List ℕ} {tail : ℕ} → IsCounted cells rank before tail → (b : ℕ) → b < (tail + 511) / 512 → get_or before b 0 + 1 < 2 ^ 32
before_small {cells} {rank} {before} {tail} counted b l =
    let within : 512 * b < tail = omega arith in
    let block : 512 * b / 512 ≡ b = omega arith in
    let here : get_or before b 0 + get_or rank (512 * b) 0 ≡ length (live (take (512 * b) cells)) = rw block at (counted.counted (512 * b) within) in
    omega (arith, here, count_le cells (512 * b), counted.within, counted.small)

pub marked : {cells : List (Option ℕ)} {rank before ranks befores : List ℕ} {tail : ℕ} → IsCounted cells rank before tail → (cell x : ℕ) → cell < tail → get_or cells cell None ≡ None →
    IsRaised rank ranks (cell + 1) (min (512 * (cell / 512) + 512) tail) → IsRaised before befores (cell / 512 + 1) ((tail + 511) / 512) →
    IsCounted (set cells cell (Some x)) ranks befores tail
marked {cells} {rank} {before} {ranks} {befores} {tail} counted cell x l h up ups =
    let in_cells : cell < length cells = omega (arith, counted.within) in
    record {
      ranks = omega (arith, up.len, counted.ranks, length-set cells cell (Some x));
      blocks = omega (arith, ups.len, counted.blocks, length-set cells cell (Some x));
      within = omega (arith, counted.within, length-set cells cell (Some x));
      small = omega (arith, counted.small, length-set cells cell (Some x));
      counted = λ c m. elim (cases_lt cell c) [
        | inl above ↦ elim (cases_eq (c / 512) (cell / 512)) [
          | inl same ↦ omega (arith, counted.counted c m, marked_high cells cell c x in_cells h above, up.raised c (omega arith) (omega arith), ups.front (c / 512) (omega arith))
          | inr other ↦ omega (arith, counted.counted c m, marked_high cells cell c x in_cells h above, up.back c (omega arith), ups.raised (c / 512) (omega arith) (omega arith))
        ]
        | inr below ↦ rw (take-set-le c cells cell (Some x) below) (omega (arith, counted.counted c m, up.front c (omega arith), ups.front (c / 512) (omega arith)))
      ];
      starts = λ b m. elim (cases_lt (512 * b) (cell + 1)) [
        | inl below ↦ up.front (512 * b) below ∙ counted.starts b m
        | inr above ↦ up.back (512 * b) (omega arith) ∙ counted.starts b m
      ];
    }

-- the counts of one cell more are written
pub opened_new : (rank before : List ℕ) (tail count : ℕ) → tail < length rank → tail / 512 < length before → tail % 512 ≡ 0 →
    IsOpened rank before (set rank tail (count - get_or (set before (tail / 512) count) (tail / 512) 0)) (set before (tail / 512) count) tail count
opened_new rank before tail count l m z =
    let here : get_or (set before (tail / 512) count) (tail / 512) 0 ≡ count = get_or-set_same before (tail / 512) count 0 m in
    let rank_here : get_or (set rank tail (count - get_or (set before (tail / 512) count) (tail / 512) 0)) tail 0 ≡ count - get_or (set before (tail / 512) count) (tail / 512) 0 =
    get_or-set_same rank tail (count - get_or (set before (tail / 512) count) (tail / 512) 0) 0 l in
    record {
      rank_len = length-set rank tail (count - get_or (set before (tail / 512) count) (tail / 512) 0);
      before_len = length-set before (tail / 512) count;
      total = omega (arith, here, rank_here);
      start = λ _. omega (arith, here, rank_here);
      rank_kept = λ k n. (let ne : k ≢ tail = omega arith in
          get_or-set_other rank tail k (count - get_or (set before (tail / 512) count) (tail / 512) 0) 0 ne);
      before_kept = λ k n. (let ne : k ≢ tail / 512 = omega arith in get_or-set_other before (tail / 512) k count 0 ne);
    }

pub opened_same : (rank before : List ℕ) (tail count : ℕ) → tail < length rank → get_or before (tail / 512) 0 ≤ count → (tail % 512 ≡ 0 → ⊥) →
    IsOpened rank before (set rank tail (count - get_or before (tail / 512) 0)) before tail count
opened_same rank before tail count l low z =
    let rank_here : get_or (set rank tail (count - get_or before (tail / 512) 0)) tail 0 ≡ count - get_or before (tail / 512) 0 =
    get_or-set_same rank tail (count - get_or before (tail / 512) 0) 0 l in
    record {
      rank_len = length-set rank tail (count - get_or before (tail / 512) 0);
      before_len = refl;
      total = omega (arith, low, rank_here);
      start = λ e. absurd (z e);
      rank_kept = λ k n. (let ne : k ≢ tail = omega arith in get_or-set_other rank tail k (count - get_or before (tail / 512) 0) 0 ne);
      before_kept = λ k n. refl;
    }

pub opened_low : {cells : List (Option ℕ)} {rank before : List ℕ} {tail : ℕ} → IsCounted cells rank before tail → (count : ℕ) → count ≡ length (live (take tail cells)) →
    (tail % 512 ≡ 0 → ⊥) → get_or before (tail / 512) 0 ≤ count
opened_low {cells} {rank} {before} {tail} counted count is z =
    let last : tail - 1 < tail = omega arith in
    let block : (tail - 1) / 512 ≡ tail / 512 = omega arith in
    let here : get_or before (tail / 512) 0 + get_or rank (tail - 1) 0 ≡ length (live (take (tail - 1) cells)) = rw block at (counted.counted (tail - 1) last) in
    omega (arith, here, is, count_mono cells (tail - 1) tail (omega arith))

pub counted_opened : {cells : List (Option ℕ)} {rank before ranks befores : List ℕ} {tail count : ℕ} → IsCounted cells rank before tail → tail < length cells →
    count ≡ length (live (take tail cells)) → IsOpened rank before ranks befores tail count → IsCounted cells ranks befores (tail + 1)
counted_opened {cells} {rank} {before} {ranks} {befores} {tail} {count} counted l is opened = record {
  ranks = opened.rank_len ∙ counted.ranks;
  blocks = omega (arith, opened.before_len, counted.blocks);
  within = omega arith;
  small = counted.small;
  counted = λ c m. elim (cases_eq c tail) [
    | inl e ↦ rw e (opened.total ∙ is)
    | inr ne ↦ omega (arith, opened.before_kept (c / 512) (omega arith), opened.rank_kept c (omega arith), counted.counted c (omega arith))
  ];
  starts = λ b m. elim (cases_eq (512 * b) tail) [
    | inl e ↦ rw e (opened.start (omega arith))
    | inr ne ↦ opened.rank_kept (512 * b) (omega arith) ∙ counted.starts b (omega arith)
  ];
}

-- a write behind the cells that are counted
pub counted_behind : {cells : List (Option ℕ)} {rank before : List ℕ} {tail : ℕ} → IsCounted cells rank before tail → (c : ℕ) (v : Option ℕ) → tail ≤ c + 1 → IsCounted (set cells c v) rank before tail
counted_behind {cells} {rank} {before} {tail} counted c v l = record {
  ranks = omega (arith, counted.ranks, length-set cells c v);
  blocks = omega (arith, counted.blocks, length-set cells c v);
  within = omega (arith, counted.within, length-set cells c v);
  small = omega (arith, counted.small, length-set cells c v);
  counted = λ k m. rw (take-set-le k cells c v (omega arith)) (counted.counted k m);
  starts = counted.starts;
}

pub counted_put : {cells : List (Option ℕ)} {rank before ranks befores : List ℕ} {tail count : ℕ} → IsCounted cells rank before tail → (id : ℕ) → tail < length cells →
    count ≡ length (live (take tail cells)) → IsOpened rank before ranks befores tail count → IsCounted (set cells tail (Some id)) ranks befores (tail + 1)
counted_put {tail = tail} counted id l is opened = counted_behind (counted_opened counted l is opened) tail (Some id) (omega arith)

-- before any cell is counted
pub counted_begun : {old new : List (Option ℕ)} {rank before : List ℕ} {tail : ℕ} → IsCounted old rank before tail → length new ≡ length old → IsCounted new rank before 0
counted_begun counted len = record {
  ranks = counted.ranks ∙ sym len;
  blocks = omega (arith, len, counted.blocks);
  within = omega arith;
  small = omega (arith, len, counted.small);
  counted = λ k m. absurd (omega arith);
  starts = λ b m. absurd (omega arith);
}

-- how many ids stand before a cell behind the last one
pub gap_count : {cells : List (Option ℕ)} {tail : ℕ} → IsEmptyFrom cells tail → (at count : ℕ) → tail ≤ at → count ≡ length (live cells) → count ≡ length (live (take at cells))
gap_count {cells} ended at count l is = is ∙ sym (ap length (live_tail cells at (λ c m. ended.empty c (omega arith))))
