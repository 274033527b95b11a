-- what stands in a row of cells, by places
use Rattle.std.proofs.Common.{◌≡◌, ◌≢◌, ℕ, zero, suc, ◌+◌, ◌<◌, ◌≤◌, ◌==◌, List, [], ◌∷◌, ◌++◌, length, get_or, set, take, drop, Option, Some, None, not, cond, nat_lt, refl, sym, ap, arith, filter, position, slice_get, is_some, Bool, IsTrue, add-one}
use Rattle.std.proofs.lemmas.Bool.Decides.{nat_tests}
use Rattle.std.specs.List.{position_or_len}
use Rattle.std.specs.Int.{from_bool}
use Rattle.row_order.specs.Helps.Cells.{live}
use Rattle.row_order.specs.Orders.{renamed}

pub count_mono : (cells : List (Option ℕ)) (a b : ℕ) → a ≤ b → length (live (take a cells)) ≤ length (live (take b cells))
count_mono cells zero b h = omega arith
count_mono cells (suc a) zero h = absurd (omega arith)
count_mono [] (suc a) (suc b) h = omega arith
count_mono (None ∷ xs) (suc a) (suc b) h = count_mono xs a b (omega arith)
count_mono (Some x ∷ xs) (suc a) (suc b) h = omega (arith, count_mono xs a b (omega arith))

pub count_le : (cells : List (Option ℕ)) (a : ℕ) → length (live (take a cells)) ≤ a
count_le cells zero = omega arith
count_le [] (suc a) = omega arith
count_le (None ∷ xs) (suc a) = omega (arith, count_le xs a)
count_le (Some x ∷ xs) (suc a) = omega (arith, count_le xs a)

pub count_whole : (cells : List (Option ℕ)) (a : ℕ) → length (live (take a cells)) ≤ length (live cells)
count_whole cells zero = omega arith
count_whole [] (suc a) = omega arith
count_whole (None ∷ xs) (suc a) = count_whole xs a
count_whole (Some x ∷ xs) (suc a) = omega (arith, count_whole xs a)

pub count_some : (cells : List (Option ℕ)) (c x : ℕ) → get_or cells c None ≡ Some x → length (live (take (suc c) cells)) ≡ length (live (take c cells)) + 1
count_some [] c x h = absurd cc
count_some (None ∷ xs) zero x h = absurd cc
count_some (Some y ∷ xs) zero x h = refl
count_some (None ∷ xs) (suc c) x h = count_some xs c x h
count_some (Some y ∷ xs) (suc c) x h = omega (arith, count_some xs c x h)

pub count_here : (cells : List (Option ℕ)) (c : ℕ) → IsTrue (is_some (get_or cells c None)) → length (live (take (suc c) cells)) ≡ length (live (take c cells)) + 1
count_here [] c h = absurd cc
count_here (None ∷ xs) zero h = absurd cc
count_here (Some y ∷ xs) zero h = refl
count_here (None ∷ xs) (suc c) h = count_here xs c h
count_here (Some y ∷ xs) (suc c) h = omega (arith, count_here xs c h)

pub count_none : (cells : List (Option ℕ)) (c : ℕ) → get_or cells c None ≡ None → live (take (suc c) cells) ≡ live (take c cells)
count_none [] zero h = refl
count_none [] (suc c) h = refl
count_none (None ∷ xs) zero h = refl
count_none (Some y ∷ xs) zero h = absurd cc
count_none (None ∷ xs) (suc c) h = count_none xs c h
count_none (Some y ∷ xs) (suc c) h = ap (λ ys. y ∷ ys) (count_none xs c h)

pub within_cells : (cells : List (Option ℕ)) (c x : ℕ) → get_or cells c None ≡ Some x → c < length cells
within_cells [] c x h = absurd cc
within_cells (o ∷ xs) zero x h = omega arith
within_cells (o ∷ xs) (suc c) x h = omega (arith, within_cells xs c x h)

pub before_whole : (cells : List (Option ℕ)) (c x : ℕ) → get_or cells c None ≡ Some x → length (live (take c cells)) < length (live cells)
before_whole cells c x h = omega (arith, count_some cells c x h, count_whole cells (suc c))

pub got_at : (cells : List (Option ℕ)) (c x : ℕ) → get_or cells c None ≡ Some x → slice_get (live cells) (length (live (take c cells))) ≡ Some x
got_at [] c x h = absurd cc
got_at (None ∷ xs) zero x h = absurd cc
got_at (Some y ∷ xs) zero x h = h
got_at (None ∷ xs) (suc c) x h = got_at xs c x h
got_at (Some y ∷ xs) (suc c) x h = got_at xs c x h

first_is : (cells : List (Option ℕ)) (c x : ℕ) → get_or cells c None ≡ Some x → ((k : ℕ) → get_or cells k None ≡ Some x → k ≡ c) →
    position_or_len (λ y. y == x) (live cells) ≡ length (live (take c cells))
first_is [] c x h one = absurd cc
first_is (None ∷ xs) zero x h one = absurd cc
first_is (Some y ∷ xs) zero x h one = let e : y ≡ x = cc in grind (arith, nat_tests)
first_is (None ∷ xs) (suc c) x h one = first_is xs c x h (λ k e. omega (arith, one (suc k) e))
first_is (Some y ∷ xs) (suc c) x h one =
    let ne : y ≢ x = λ e. absurd (omega (arith, one zero (ap Some e))) in
    let rest : position_or_len (λ z. z == x) (live xs) ≡ length (live (take c xs)) = first_is xs c x h (λ k e. omega (arith, one (suc k) e)) in
    grind (arith, nat_tests, rest)

pos_at : (a b n : ℕ) → a ≡ n → n < b → cond (nat_lt a b) (Some a) None ≡ Some n
pos_at a b n e h = grind (arith, nat_tests)

pos_none : (a b : ℕ) → a ≡ b → cond (nat_lt a b) (Some a) None ≡ None
pos_none a b e = grind (arith, nat_tests)

pub number_is : (cells : List (Option ℕ)) (c x : ℕ) → get_or cells c None ≡ Some x → ((k : ℕ) → get_or cells k None ≡ Some x → k ≡ c) →
    position (λ y. y == x) (live cells) ≡ Some (length (live (take c cells)))
number_is cells c x h one = pos_at _ _ _ (first_is cells c x h one) (before_whole cells c x h)

first_none : (cells : List (Option ℕ)) (x : ℕ) → ((k : ℕ) → get_or cells k None ≢ Some x) → position_or_len (λ y. y == x) (live cells) ≡ length (live cells)
first_none [] x none = refl
first_none (None ∷ xs) x none = first_none xs x (λ k. none (suc k))
first_none (Some y ∷ xs) x none =
    let ne : y ≢ x = λ e. none zero (ap Some e) in
    let rest : position_or_len (λ z. z == x) (live xs) ≡ length (live xs) = first_none xs x (λ k. none (suc k)) in
    grind (arith, nat_tests, rest)

pub number_none : (cells : List (Option ℕ)) (x : ℕ) → ((k : ℕ) → get_or cells k None ≢ Some x) → position (λ y. y == x) (live cells) ≡ None
number_none cells x none = pos_none _ _ (first_none cells x none)

pub cleared_high : (cells : List (Option ℕ)) (c k x : ℕ) → get_or cells c None ≡ Some x → c < k → length (live (take k (set cells c None))) + 1 ≡ length (live (take k cells))
cleared_high [] c k x h l = absurd cc
cleared_high (o ∷ xs) c zero x h l = absurd (omega arith)
cleared_high (None ∷ xs) zero (suc k) x h l = absurd cc
cleared_high (Some y ∷ xs) zero (suc k) x h l = omega arith
cleared_high (None ∷ xs) (suc c) (suc k) x h l = cleared_high xs c k x h (omega arith)
cleared_high (Some y ∷ xs) (suc c) (suc k) x h l = omega (arith, cleared_high xs c k x h (omega arith))

pub filter_keep : (cells : List (Option ℕ)) (x : ℕ) → ((k : ℕ) → get_or cells k None ≢ Some x) → filter (λ y. not (y == x)) (live cells) ≡ live cells
filter_keep [] x none = refl
filter_keep (None ∷ xs) x none = filter_keep xs x (λ k. none (suc k))
filter_keep (Some y ∷ xs) x none =
    let ne : y ≢ x = λ e. none zero (ap Some e) in
    let rest : filter (λ z. not (z == x)) (live xs) ≡ live xs = filter_keep xs x (λ k. none (suc k)) in
    grind (arith, nat_tests, rest)

pub clear_filter : (cells : List (Option ℕ)) (c x : ℕ) → get_or cells c None ≡ Some x → ((k : ℕ) → get_or cells k None ≡ Some x → k ≡ c) →
    live (set cells c None) ≡ filter (λ y. not (y == x)) (live cells)
clear_filter [] c x h one = absurd cc
clear_filter (None ∷ xs) zero x h one = absurd cc
clear_filter (Some y ∷ xs) zero x h one =
    let e : y ≡ x = cc in
    let rest : filter (λ z. not (z == x)) (live xs) ≡ live xs = filter_keep xs x (λ k g. absurd (omega (arith, one (suc k) g))) in
    grind (arith, nat_tests, rest)
clear_filter (None ∷ xs) (suc c) x h one = clear_filter xs c x h (λ k e. omega (arith, one (suc k) e))
clear_filter (Some y ∷ xs) (suc c) x h one =
    let ne : y ≢ x = λ e. absurd (omega (arith, one zero (ap Some e))) in
    let rest : live (set xs c None) ≡ filter (λ z. not (z == x)) (live xs) = clear_filter xs c x h (λ k e. omega (arith, one (suc k) e)) in
    grind (arith, nat_tests, rest)

all_none : (xs : List (Option ℕ)) → ((c : ℕ) → get_or xs c None ≡ None) → live xs ≡ []
all_none [] none = refl
all_none (None ∷ xs) none = all_none xs (λ c. none (suc c))
all_none (Some y ∷ xs) none = let e : Some y ≡ None = none zero in absurd cc

pub put_end : (cells : List (Option ℕ)) (tail x : ℕ) → tail < length cells → ((c : ℕ) → tail ≤ c → get_or cells c None ≡ None) →
    live (set cells tail (Some x)) ≡ live cells ++ x ∷ []
put_end [] tail x l none = absurd (omega arith)
put_end (None ∷ xs) zero x l none = let e : live xs ≡ [] = all_none xs (λ c. none (suc c) (omega arith)) in rw e refl
put_end (Some y ∷ xs) zero x l none = let e : Some y ≡ None = none zero (omega arith) in absurd cc
put_end (None ∷ xs) (suc tail) x l none = put_end xs tail x (omega arith) (λ c h. none (suc c) (omega arith))
put_end (Some y ∷ xs) (suc tail) x l none = ap (λ ys. y ∷ ys) (put_end xs tail x (omega arith) (λ c h. none (suc c) (omega arith)))

pub live_tail : (cells : List (Option ℕ)) (tail : ℕ) → ((c : ℕ) → tail ≤ c → get_or cells c None ≡ None) → live (take tail cells) ≡ live cells
live_tail cells zero none = sym (all_none cells (λ c. none c (omega arith)))
live_tail [] (suc tail) none = refl
live_tail (None ∷ xs) (suc tail) none = live_tail xs tail (λ c h. none (suc c) (omega arith))
live_tail (Some y ∷ xs) (suc tail) none = ap (λ ys. y ∷ ys) (live_tail xs tail (λ c h. none (suc c) (omega arith)))

first_moved : (xs : List (Option ℕ)) (f x : ℕ) → get_or xs f None ≡ Some x → ((k : ℕ) → k < f → get_or xs k None ≡ None) → x ∷ live (set xs f None) ≡ live xs
first_moved [] f x h none = absurd cc
first_moved (None ∷ xs) zero x h none = absurd cc
first_moved (Some y ∷ xs) zero x h none = let e : y ≡ x = cc in rw e refl
first_moved (None ∷ xs) (suc f) x h none = first_moved xs f x h (λ k l. none (suc k) (omega arith))
first_moved (Some y ∷ xs) (suc f) x h none = let e : Some y ≡ None = none zero (omega arith) in absurd cc

pub moved_front : (cells : List (Option ℕ)) (from to x : ℕ) → get_or cells from None ≡ Some x → to ≤ from → ((k : ℕ) → to ≤ k → k < from → get_or cells k None ≡ None) →
    live (set (set cells from None) to (Some x)) ≡ live cells
moved_front [] from to x h l none = absurd cc
moved_front (None ∷ xs) zero zero x h l none = absurd cc
moved_front (Some y ∷ xs) zero zero x h l none = let e : y ≡ x = cc in rw e refl
moved_front (o ∷ xs) zero (suc to) x h l none = absurd (omega arith)
moved_front (None ∷ xs) (suc from) zero x h l none = first_moved xs from x h (λ k m. none (suc k) (omega arith) (omega arith))
moved_front (Some y ∷ xs) (suc from) zero x h l none = let e : Some y ≡ None = none zero (omega arith) (omega arith) in absurd cc
moved_front (None ∷ xs) (suc from) (suc to) x h l none = moved_front xs from to x h (omega arith) (λ k a b. none (suc k) (omega arith) (omega arith))
moved_front (Some y ∷ xs) (suc from) (suc to) x h l none = ap (λ ys. y ∷ ys) (moved_front xs from to x h (omega arith) (λ k a b. none (suc k) (omega arith) (omega arith)))

pub marked_high : (cells : List (Option ℕ)) (c k x : ℕ) → c < length cells → get_or cells c None ≡ None → c < k → length (live (take k (set cells c (Some x)))) ≡ length (live (take k cells)) + 1
marked_high [] c k x m h l = absurd (omega arith)
marked_high (o ∷ xs) c zero x m h l = absurd (omega arith)
marked_high (None ∷ xs) zero (suc k) x m h l = omega arith
marked_high (Some y ∷ xs) zero (suc k) x m h l = absurd cc
marked_high (None ∷ xs) (suc c) (suc k) x m h l = marked_high xs c k x (omega arith) h (omega arith)
marked_high (Some y ∷ xs) (suc c) (suc k) x m h l = omega (arith, marked_high xs c k x (omega arith) h (omega arith))

-- an id in the place of another counts the same
pub swapped_counts : (cells : List (Option ℕ)) (c k x y : ℕ) → get_or cells c None ≡ Some x → length (live (take k (set cells c (Some y)))) ≡ length (live (take k cells))
swapped_counts cells c zero x y h = refl
swapped_counts [] c (suc k) x y h = absurd cc
swapped_counts (None ∷ xs) zero (suc k) x y h = absurd cc
swapped_counts (Some z ∷ xs) zero (suc k) x y h = refl
swapped_counts (None ∷ xs) (suc c) (suc k) x y h = swapped_counts xs c k x y h
swapped_counts (Some z ∷ xs) (suc c) (suc k) x y h = omega (arith, swapped_counts xs c k x y h)

-- one step of carrying: what stands at a cell is taken up, and what was carried is put down there
pub carried_ids : (cells : List (Option ℕ)) (c x y : ℕ) → get_or cells c None ≡ Some x →
    live (take (suc c) (set cells c (Some y))) ++ x ∷ live (drop (suc c) (set cells c (Some y))) ≡ live (take c cells) ++ y ∷ live (drop c cells)
carried_ids [] c x y h = absurd cc
carried_ids (None ∷ xs) zero x y h = absurd cc
carried_ids (Some z ∷ xs) zero x y h = let e : z ≡ x = cc in rw e refl
carried_ids (None ∷ xs) (suc c) x y h = carried_ids xs c x y h
carried_ids (Some z ∷ xs) (suc c) x y h = ap (λ ys. z ∷ ys) (carried_ids xs c x y h)

-- what is carried is put down in an empty cell
pub landed_ids : (cells : List (Option ℕ)) (c y : ℕ) → c < length cells → get_or cells c None ≡ None → live (set cells c (Some y)) ≡ live (take c cells) ++ y ∷ live (drop c cells)
landed_ids [] c y l h = absurd (omega arith)
landed_ids (None ∷ xs) zero y l h = refl
landed_ids (Some z ∷ xs) zero y l h = absurd cc
landed_ids (None ∷ xs) (suc c) y l h = landed_ids xs c y (omega arith) h
landed_ids (Some z ∷ xs) (suc c) y l h = ap (λ ys. z ∷ ys) (landed_ids xs c y (omega arith) h)

-- the ids before a cell and behind it, as an insertion into the whole
pub insert_ids : (cells : List (Option ℕ)) (c place y : ℕ) → length (live (take c cells)) ≡ place →
    live (take c cells) ++ y ∷ live (drop c cells) ≡ take place (live cells) ++ y ∷ drop place (live cells)
insert_ids cells zero place y h = rw (← h) refl
insert_ids [] (suc c) place y h = rw (← h) refl
insert_ids (None ∷ xs) (suc c) place y h = insert_ids xs c place y h
insert_ids (Some z ∷ xs) (suc c) zero y h = absurd (omega arith)
insert_ids (Some z ∷ xs) (suc c) (suc place) y h = ap (λ ys. z ∷ ys) (insert_ids xs c place y (omega arith))

pub count_step : (cells : List (Option ℕ)) (c : ℕ) → length (live (take (suc c) cells)) ≤ length (live (take c cells)) + 1
count_step [] zero = omega arith
count_step [] (suc c) = omega arith
count_step (None ∷ xs) zero = omega arith
count_step (Some y ∷ xs) zero = omega arith
count_step (None ∷ xs) (suc c) = count_step xs c
count_step (Some y ∷ xs) (suc c) = omega (arith, count_step xs c)

-- what moves back over empty cells keeps its place among the ids
first_put : (xs : List (Option ℕ)) (to x : ℕ) → to < length xs → ((k : ℕ) → k ≤ to → get_or xs k None ≡ None) → live (set xs to (Some x)) ≡ x ∷ live xs
first_put [] to x m none = absurd (omega arith)
first_put (Some y ∷ xs) to x m none = let e : Some y ≡ None = none zero (omega arith) in absurd cc
first_put (None ∷ xs) zero x m none = refl
first_put (None ∷ xs) (suc to) x m none = first_put xs to x (omega arith) (λ k a. none (suc k) (omega arith))

pub moved_back : (cells : List (Option ℕ)) (from to x : ℕ) → get_or cells from None ≡ Some x → from ≤ to → to < length cells → ((k : ℕ) → from < k → k ≤ to → get_or cells k None ≡ None) →
    live (set (set cells from None) to (Some x)) ≡ live cells
moved_back [] from to x h l m none = absurd cc
moved_back (None ∷ xs) zero to x h l m none = absurd cc
moved_back (Some y ∷ xs) zero zero x h l m none = let e : y ≡ x = cc in rw e refl
moved_back (Some y ∷ xs) zero (suc to) x h l m none =
    let e : y ≡ x = cc in rw e (first_put xs to x (omega arith) (λ k a. none (suc k) (omega arith) (omega arith)))
moved_back (o ∷ xs) (suc from) zero x h l m none = absurd (omega arith)
moved_back (None ∷ xs) (suc from) (suc to) x h l m none = moved_back xs from to x h (omega arith) (omega arith) (λ k a b. none (suc k) (omega arith) (omega arith))
moved_back (Some y ∷ xs) (suc from) (suc to) x h l m none =
    ap (λ ys. y ∷ ys) (moved_back xs from to x h (omega arith) (omega arith) (λ k a b. none (suc k) (omega arith) (omega arith)))

-- an id in the place of another
pub renamed_keep : (cells : List (Option ℕ)) (x y : ℕ) → ((k : ℕ) → get_or cells k None ≢ Some x) → renamed x y (live cells) ≡ live cells
renamed_keep [] x y none = refl
renamed_keep (None ∷ xs) x y none = renamed_keep xs x y (λ k. none (suc k))
renamed_keep (Some z ∷ xs) x y none =
    let ne : z ≢ x = λ e. none zero (ap Some e) in
    let rest : renamed x y (live xs) ≡ live xs = renamed_keep xs x y (λ k. none (suc k)) in
    grind (arith, nat_tests, rest)

pub renamed_ids : (cells : List (Option ℕ)) (c x y : ℕ) → get_or cells c None ≡ Some x → ((k : ℕ) → get_or cells k None ≡ Some x → k ≡ c) →
    live (set cells c (Some y)) ≡ renamed x y (live cells)
renamed_ids [] c x y h one = absurd cc
renamed_ids (None ∷ xs) zero x y h one = absurd cc
renamed_ids (Some z ∷ xs) zero x y h one =
    let e : z ≡ x = cc in
    let rest : renamed x y (live xs) ≡ live xs = renamed_keep xs x y (λ k g. absurd (omega (arith, one (suc k) g))) in
    grind (arith, nat_tests, rest)
renamed_ids (None ∷ xs) (suc c) x y h one = renamed_ids xs c x y h (λ k e. omega (arith, one (suc k) e))
renamed_ids (Some z ∷ xs) (suc c) x y h one =
    let ne : z ≢ x = λ e. absurd (omega (arith, one zero (ap Some e))) in
    let rest : live (set xs c (Some y)) ≡ renamed x y (live xs) = renamed_ids xs c x y h (λ k e. omega (arith, one (suc k) e)) in
    grind (arith, nat_tests, rest)

-- the count goes on by one where a cell is taken
pub count_next : (cells : List (Option ℕ)) (c n r : ℕ) {taken : Bool} → n ≡ length (live (take c cells)) → r ≡ from_bool taken → taken ≡ is_some (get_or cells c None) →
    n + r ≡ length (live (take (c + 1) cells))
count_next cells c n r is e t = step (get_or cells c None) refl
  where
    step : (o : Option ℕ) → get_or cells c None ≡ o → n + r ≡ length (live (take (c + 1) cells))
    step None h = (let z : r ≡ 0 = rw (t, h) at e in rw add-one (omega (arith, is, z, ap length (count_none cells c h))))
    step (Some x) h = (let z : r ≡ 1 = rw (t, h) at e in rw add-one (omega (arith, is, z, count_some cells c x h)))
