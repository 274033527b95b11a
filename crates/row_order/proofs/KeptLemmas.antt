-- what an order keeps, and what it answers
use Rattle.std.proofs.Common.{◌≡◌, ◌≢◌, ℕ, zero, suc, ◌+◌, ◌*◌, ◌/◌, ◌^◌, ◌-◌, ◌<◌, ◌≤◌, ◌==◌, List, [], ◌∷◌, ◌++◌, length, get_or, set, take, drop, Option, Some, None, not, refl, sym, ap, arith, add-one, ◌∙◌, filter, position, slice_get, replicate}
use Rattle.std.proofs.lemmas.List.{length-set, get_or-set_other, get_or_read, length-append, take_at, take-append-le, get_or_append_left, length-replicate}
use Rattle.row_order.specs.Helps.Cells.{live, IsCounted, IsEmptyFrom, IsKept}
use Rattle.row_order.specs.Orders.{Order, renamed}
use Rattle.row_order.proofs.CellLemmas.{count_le, before_whole, count_some, count_none, number_is, number_none, within_cells, got_at, cleared_high, clear_filter, filter_keep, put_end, live_tail, renamed_ids, renamed_keep, swapped_counts}
use Rattle.row_order.proofs.PlacedLemmas.{stands_within, one_cell, placed_cleared, empty_cleared, placed_put, placed_renamed, new_in_cells}

pub order_is : {old new : List ℕ} {m n : ℕ} → old ≡ new → m ≡ n → ◌≡◌ {A = Order} (record { ids = old; slots = m }) (record { ids = new; slots = n })
order_is {old} {new} {m} {n} e f = rw (e, f) refl

pub sum_at : {cells : List (Option ℕ)} {cell_of rank before : List ℕ} {tail count : ℕ} → IsKept cells cell_of rank before tail count → (c x : ℕ) → get_or cells c None ≡ Some x →
    get_or before (c / 512) 0 + get_or rank c 0 ≡ length (live (take c cells))
sum_at kept c x h = kept.counted.counted c (stands_within kept.ended c x h)

pub number_fits : {cells : List (Option ℕ)} {cell_of rank before : List ℕ} {tail count : ℕ} → IsKept cells cell_of rank before tail count →
    (seen : List (Option ℕ)) (ranks befores : List ℕ) (c x : ℕ) → seen ≡ cells → ranks ≡ rank → befores ≡ before → get_or seen c None ≡ Some x →
    get_or befores (c / 512) 0 + get_or ranks c 0 < 4294967296
number_fits {cells} {cell_of} {rank} {before} kept seen ranks befores c x e f g h =
    let at : get_or cells c None ≡ Some x = rw e at h in
    rw (f, g) (omega (arith, sum_at kept c x at, count_le cells c, within_cells cells c x at, kept.counted.small))

pub number_answer : {cells : List (Option ℕ)} {cell_of rank before : List ℕ} {tail count : ℕ} → IsKept cells cell_of rank before tail count →
    (seen : List (Option ℕ)) (ranks befores : List ℕ) (c x n : ℕ) → seen ≡ cells → ranks ≡ rank → befores ≡ before → get_or seen c None ≡ Some x →
    n ≡ get_or befores (c / 512) 0 + get_or ranks c 0 → Some n ≡ position (λ y. y == x) (live cells)
number_answer {cells} {cell_of} {rank} {before} kept seen ranks befores c x n e f g h is =
    let at : get_or cells c None ≡ Some x = rw e at h in
    let m : n ≡ get_or before (c / 512) 0 + get_or rank c 0 = rw (f, g) at is in
    ap Some (m ∙ sum_at kept c x at) ∙ sym (number_is cells c x at (one_cell kept.placed c x at))

pub none_answer : (cells seen : List (Option ℕ)) (x : ℕ) → seen ≡ cells → ((k : ℕ) → get_or seen k None ≡ Some x → ⊥) → None ≡ position (λ y. y == x) (live cells)
none_answer cells seen x e none = sym (number_none cells x (λ k h. none k (rw e h)))

-- what the public functions answer
pub place_within : {cells : List (Option ℕ)} {cell_of rank before : List ℕ} {tail count : ℕ} → IsKept cells cell_of rank before tail count → (seen : List (Option ℕ)) (place : ℕ) →
    seen ≡ cells → place < count → place < length (live (take tail seen))
place_within {cells} {cell_of} {rank} {before} {tail} kept seen place e l = rw e (omega (arith, ap length (live_tail cells tail kept.ended.empty), kept.counts))

at_go : (cells : List (Option ℕ)) (place cell : ℕ) (o : Option ℕ) → get_or cells cell None ≡ o → length (live (take cell cells)) ≤ place → place < length (live (take (suc cell) cells)) →
    o ≡ slice_get (live cells) place
at_go cells place cell None e low high = absurd (omega (arith, ap length (count_none cells cell e)))
at_go cells place cell (Some x) e low high =
    let here : place ≡ length (live (take cell cells)) = omega (arith, count_some cells cell x e) in
    rw here (sym (got_at cells cell x e))

pub at_answer : (cells : List (Option ℕ)) (seen : List (Option ℕ)) (place cell : ℕ) (read : Option ℕ) → seen ≡ cells → cell < length cells → read ≡ get_or cells cell read →
    length (live (take cell seen)) ≤ place → place < length (live (take (cell + 1) seen)) → read ≡ slice_get (live cells) place
at_answer cells seen place cell read e l is low high =
    let lower : length (live (take cell cells)) ≤ place = rw e at low in
    let upper : place < length (live (take (suc cell) cells)) = rw (e, add-one) at high in
    get_or_read cells cell read l is None ∙ at_go cells place cell (get_or cells cell None) refl lower upper

pub kept_put : {cells : List (Option ℕ)} {cell_of rank before ranks befores : List ℕ} {tail count : ℕ} → IsKept cells cell_of rank before tail count → (id : ℕ) → tail < length cells →
    id < length cell_of → position (λ y. y == id) (live cells) ≡ None → length (live cells) < length cell_of → IsCounted (set cells tail (Some id)) ranks befores (tail + 1) →
    IsKept (set cells tail (Some id)) (set cell_of id tail) ranks befores (tail + 1) (count + 1)
kept_put {cells} {cell_of} {rank} {before} {ranks} {befores} {tail} {count} kept id l m new room counted = record {
  counted = counted;
  placed = placed_put kept.placed tail id l m (new_in_cells kept.placed id new);
  ended = record { empty = λ k a. (let ne : k ≢ tail = omega arith in get_or-set_other cells tail k (Some id) None ne ∙ kept.ended.empty k (omega arith)) };
  wide = omega (arith, kept.wide, length-set cells tail (Some id), length-set cell_of id tail);
  counts = omega (arith, kept.counts, ap length (put_end cells tail id l kept.ended.empty), length-append (live cells) (id ∷ []));
  few = omega (arith, kept.counts, room, length-set cell_of id tail);
}

pub ids_put : {cells : List (Option ℕ)} {cell_of rank before : List ℕ} {tail count : ℕ} → IsKept cells cell_of rank before tail count → (id : ℕ) → tail < length cells →
    live (set cells tail (Some id)) ≡ live cells ++ id ∷ []
ids_put {cells} {cell_of} {rank} {before} {tail} kept id l = put_end cells tail id l kept.ended.empty

pub tail_count : {cells : List (Option ℕ)} {cell_of rank before : List ℕ} {tail count : ℕ} → IsKept cells cell_of rank before tail count → count ≡ length (live (take tail cells))
tail_count {cells} {cell_of} {rank} {before} {tail} kept = kept.counts ∙ sym (ap length (live_tail cells tail kept.ended.empty))

pub kept_cleared : {cells : List (Option ℕ)} {cell_of rank before ranks befores : List ℕ} {tail count : ℕ} → IsKept cells cell_of rank before tail count → (cell id : ℕ) →
    get_or cells cell None ≡ Some id → IsCounted (set cells cell None) ranks befores tail → IsKept (set cells cell None) cell_of ranks befores tail (count - 1)
kept_cleared {cells} {cell_of} {rank} {before} {ranks} {befores} {tail} {count} kept cell id h counted =
    let ended : IsEmptyFrom (set cells cell None) tail = empty_cleared kept.ended cell (stands_within kept.ended cell id h) in
    record {
      counted = counted;
      placed = placed_cleared kept.placed cell;
      ended = ended;
      wide = omega (arith, kept.wide, length-set cells cell None);
      counts = omega (
        arith,
        kept.counts,
        cleared_high cells cell tail id h (stands_within kept.ended cell id h),
        ap length (live_tail cells tail kept.ended.empty),
        ap length (live_tail (set cells cell None) tail ended.empty),
      );
      few = omega (arith, kept.few);
    }

pub ids_cleared : {cells : List (Option ℕ)} {cell_of rank before : List ℕ} {tail count : ℕ} → IsKept cells cell_of rank before tail count → (cell id : ℕ) →
    get_or cells cell None ≡ Some id → live (set cells cell None) ≡ filter (λ y. not (y == id)) (live cells)
ids_cleared {cells} kept cell id h = clear_filter cells cell id h (one_cell kept.placed cell id h)

-- what a slice of a `Vec` leaves in it
pub written : {X : Type 0} (n : ℕ) (new old : List X) → length new ≡ n → take n (new ++ drop (length new) old) ≡ new
written n new old e = take_at new (drop (length new) old) n e

pub removed_kept : {cells : List (Option ℕ)} {cell_of rank before : List ℕ} {tail count : ℕ} → IsKept cells cell_of rank before tail count →
    (cell id : ℕ) (seen lent new : List (Option ℕ)) (ranks befores : List ℕ) → seen ≡ cells → get_or seen cell None ≡ Some id → lent ≡ cells → new ≡ set lent cell None →
    IsCounted new ranks befores tail → IsKept new cell_of ranks befores tail (count - 1)
removed_kept {cells} kept cell id seen lent new ranks befores e h f g counted =
    let at : get_or cells cell None ≡ Some id = rw e at h in
    let is : new ≡ set cells cell None = rw f at g in
    rw is (kept_cleared kept cell id at (rw is at counted))

pub removed_ids : {cells : List (Option ℕ)} {cell_of rank before : List ℕ} {tail count : ℕ} → IsKept cells cell_of rank before tail count →
    (cell id : ℕ) (seen lent new : List (Option ℕ)) → seen ≡ cells → get_or seen cell None ≡ Some id → lent ≡ cells → new ≡ set lent cell None →
    live new ≡ filter (λ y. not (y == id)) (live cells)
removed_ids {cells} kept cell id seen lent new e h f g =
    let at : get_or cells cell None ≡ Some id = rw e at h in
    let is : new ≡ set cells cell None = rw f at g in
    rw is (ids_cleared kept cell id at)

pub absent_ids : (cells seen : List (Option ℕ)) (x : ℕ) → seen ≡ cells → ((k : ℕ) → get_or seen k None ≡ Some x → ⊥) → live cells ≡ filter (λ y. not (y == x)) (live cells)
absent_ids cells seen x e none = sym (filter_keep cells x (λ k h. none k (rw e h)))

pub one_stands : {cells : List (Option ℕ)} {cell_of rank before : List ℕ} {tail count : ℕ} → IsKept cells cell_of rank before tail count →
    (cell id : ℕ) (seen : List (Option ℕ)) → seen ≡ cells → get_or seen cell None ≡ Some id → 1 ≤ count
one_stands {cells} kept cell id seen e h =
    let at : get_or cells cell None ≡ Some id = rw e at h in
    omega (arith, kept.counts, before_whole cells cell id at)

-- more cells and more room for ids
-- empty cells
abbrev nones : ℕ → List (Option ℕ)
nones a = replicate a None

none_wide : (a c : ℕ) → get_or (nones a) c None ≡ None
none_wide zero c = refl
none_wide (suc a) zero = refl
none_wide (suc a) (suc c) = none_wide a c

cells_wide : (cells : List (Option ℕ)) (a c : ℕ) → get_or (cells ++ replicate a None) c None ≡ get_or cells c None
cells_wide [] a c = none_wide a c
cells_wide (o ∷ xs) a zero = refl
cells_wide (o ∷ xs) a (suc c) = cells_wide xs a c

live_none : (a : ℕ) → live (replicate a None) ≡ []
live_none zero = refl
live_none (suc a) = live_none a

pub live_wide : (cells : List (Option ℕ)) (a : ℕ) → live (cells ++ replicate a None) ≡ live cells
live_wide [] a = live_none a
live_wide (None ∷ xs) a = live_wide xs a
live_wide (Some x ∷ xs) a = ap (λ ys. x ∷ ys) (live_wide xs a)

pub kept_wide : {cells : List (Option ℕ)} {cell_of rank before : List ℕ} {tail count : ℕ} → IsKept cells cell_of rank before tail count → (a b d : ℕ) →
    2 * (length cell_of + b) ≤ length cells + a → length cells + a ≤ 512 * (length before + d) → length cells + a < 2 ^ 32 →
    IsKept (cells ++ replicate a None) (cell_of ++ replicate b 0) (rank ++ replicate a 0) (before ++ replicate d 0) tail count
kept_wide {cells} {cell_of} {rank} {before} {tail} {count} kept a b d slots blocks small =
    let more : length (cells ++ replicate a None) ≡ length cells + a = length-append cells (replicate a None) ∙ ap (λ n. length cells + n) (length-replicate a None) in
    let ids : length (cell_of ++ replicate b 0) ≡ length cell_of + b = length-append cell_of (replicate b 0) ∙ ap (λ n. length cell_of + n) (length-replicate b 0) in
    let ranks : length (rank ++ replicate a 0) ≡ length rank + a = length-append rank (replicate a 0) ∙ ap (λ n. length rank + n) (length-replicate a 0) in
    let befores : length (before ++ replicate d 0) ≡ length before + d = length-append before (replicate d 0) ∙ ap (λ n. length before + n) (length-replicate d 0) in
    record {
      counted = record {
        ranks = omega (arith, more, ranks, kept.counted.ranks);
        blocks = omega (arith, more, befores, blocks);
        within = omega (arith, more, kept.counted.within);
        small = omega (arith, more, small);
        counted = λ c m. rw (
          take-append-le c cells (replicate a None) (omega (arith, kept.counted.within)),
          get_or_append_left before (replicate d 0) 0 (c / 512) (omega (arith, kept.counted.within, kept.counted.blocks)),
          get_or_append_left rank (replicate a 0) 0 c (omega (arith, kept.counted.within, kept.counted.ranks)),
        ) (kept.counted.counted c m);
        starts = λ k m. rw (get_or_append_left rank (replicate a 0) 0 (512 * k) (omega (arith, kept.counted.within, kept.counted.ranks))) (kept.counted.starts k m);
      };
      placed = record {
        within = λ c x h. omega (arith, ids, kept.placed.within c x (sym (cells_wide cells a c) ∙ h));
        named = λ c x h. (let old : get_or cells c None ≡ Some x = sym (cells_wide cells a c) ∙ h in
            get_or_append_left cell_of (replicate b 0) 0 x (kept.placed.within c x old) ∙ kept.placed.named c x old);
      };
      ended = record { empty = λ c m. cells_wide cells a c ∙ kept.ended.empty c m };
      wide = omega (arith, more, ids, slots);
      counts = kept.counts ∙ sym (ap length (live_wide cells a));
      few = omega (arith, ids, kept.few);
    }

pub refilled : {X : Type 0} (old mid new : List X) (n wide : ℕ) (v : X) → mid ≡ old → n ≡ length mid → new ≡ mid ++ replicate (wide - n) v → new ≡ old ++ replicate (wide - length old) v
refilled old mid new n wide v e f g = rw (f, e) at g

pub kept_grown : {cells : List (Option ℕ)} {cell_of rank before : List ℕ} {tail count : ℕ} → IsKept cells cell_of rank before tail count → (slots wide blocks : ℕ) →
    length cells ≤ wide → length cell_of ≤ slots → length before ≤ blocks → 2 * slots ≤ wide → wide ≤ 512 * blocks → wide < 2 ^ 32 →
    IsKept (cells ++ replicate (wide - length cells) None) (cell_of ++ replicate (slots - length cell_of) 0) (rank ++ replicate (wide - length rank) 0)
    (before ++ replicate (blocks - length before) 0) tail count
kept_grown {cells} {cell_of} {rank} {before} kept slots wide blocks a b d e f g =
    let same : wide - length rank ≡ wide - length cells = ap (λ n. wide - n) kept.counted.ranks in
    rw same (kept_wide kept (wide - length cells) (slots - length cell_of) (blocks - length before) (omega arith) (omega arith) (omega arith))

-- the cells behind the tail are passed over
pub kept_skipped : {cells : List (Option ℕ)} {cell_of rank before ranks befores : List ℕ} {tail count at : ℕ} → IsKept cells cell_of rank before tail count →
    IsCounted cells ranks befores at → tail ≤ at → IsKept cells cell_of ranks befores at count
kept_skipped kept counted l = record {
  counted = counted;
  placed = kept.placed;
  ended = record { empty = λ c m. kept.ended.empty c (omega arith) };
  wide = kept.wide;
  counts = kept.counts;
  few = kept.few;
}

-- an id is written over another
pub kept_renamed : {cells : List (Option ℕ)} {cell_of rank before : List ℕ} {tail count : ℕ} → IsKept cells cell_of rank before tail count → (c x y : ℕ) (seen : List (Option ℕ)) →
    seen ≡ cells → get_or seen c None ≡ Some x → y < length cell_of → position (λ z. z == y) (live cells) ≡ None → IsKept (set cells c (Some y)) (set cell_of y c) rank before tail count
kept_renamed {cells} {cell_of} {rank} {before} {tail} {count} kept c x y seen e g m new =
    let h : get_or cells c None ≡ Some x = rw e at g in
    let l : c < tail = stands_within kept.ended c x h in
    let ended : IsEmptyFrom (set cells c (Some y)) tail =
    record { empty = λ k a. (let ne : k ≢ c = omega arith in get_or-set_other cells c k (Some y) None ne ∙ kept.ended.empty k a) } in
    record {
      counted = record {
        ranks = omega (arith, kept.counted.ranks, length-set cells c (Some y));
        blocks = omega (arith, kept.counted.blocks, length-set cells c (Some y));
        within = omega (arith, kept.counted.within, length-set cells c (Some y));
        small = omega (arith, kept.counted.small, length-set cells c (Some y));
        counted = λ k a. kept.counted.counted k a ∙ sym (swapped_counts cells c k x y h);
        starts = kept.counted.starts;
      };
      placed = placed_renamed kept.placed c x y h m (new_in_cells kept.placed y new);
      ended = ended;
      wide = omega (arith, kept.wide, length-set cells c (Some y), length-set cell_of y c);
      counts = omega (
        arith,
        kept.counts,
        swapped_counts cells c tail x y h,
        ap length (live_tail cells tail kept.ended.empty),
        ap length (live_tail (set cells c (Some y)) tail ended.empty),
      );
      few = omega (arith, kept.few, length-set cell_of y c);
    }

pub ids_renamed : {cells : List (Option ℕ)} {cell_of rank before : List ℕ} {tail count : ℕ} → IsKept cells cell_of rank before tail count → (c x y : ℕ) (seen : List (Option ℕ)) →
    seen ≡ cells → get_or seen c None ≡ Some x → live (set cells c (Some y)) ≡ renamed x y (live cells)
ids_renamed {cells} kept c x y seen e g =
    let h : get_or cells c None ≡ Some x = rw e at g in renamed_ids cells c x y h (one_cell kept.placed c x h)

pub absent_renamed : (cells seen : List (Option ℕ)) (x y : ℕ) → seen ≡ cells → ((k : ℕ) → get_or seen k None ≡ Some x → ⊥) → live cells ≡ renamed x y (live cells)
absent_renamed cells seen x y e none = sym (renamed_keep cells x y (λ k h. none k (rw e h)))

-- the ids up to the tail are all
pub front_ids : {cells : List (Option ℕ)} {cell_of rank before : List ℕ} {tail count : ℕ} → IsKept cells cell_of rank before tail count → (seen : List (Option ℕ)) (told : List ℕ) →
    seen ≡ cells → told ≡ live (take tail seen) → told ≡ live cells
front_ids {cells} {cell_of} {rank} {before} {tail} kept seen told e is = is ∙ (ap (λ xs. live (take tail xs)) e ∙ live_tail cells tail kept.ended.empty)
