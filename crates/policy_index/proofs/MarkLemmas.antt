-- What an index keeps when a row comes into the next slot, when one is taken out of a slot, and when another one comes into it.
use Rattle.std.proofs.Common.{◌≡◌, ◌≢◌, ℕ, zero, suc, ◌+◌, ◌-◌, ◌<◌, ◌≤◌, ◌^◌, ◌==◌, ◌&&◌, Bool, true, false, cond, if◌then◌else◌, List, [], ◌∷◌, ◌++◌, length, length-append, take, set, get_or, slice_get, Option, Some, None, refl, sym, ap, subst, ◌∙◌, arith}
use Rattle.std.specs.Prelude.{IfSome, nat_eq, replicate}
use Rattle.std.specs.List.{count_by, sum_by, swap_remove}
use Rattle.std.specs.Option.{option_map_or}
use Rattle.std.proofs.lemmas.Bool.{eq-eqb, ne_eqb}
use Rattle.std.proofs.lemmas.List.{get_or-set_other, get_or-set_same, get_or-take, get_or_default, length-replicate, length-set, length-take-le}
use Rattle.std.proofs.lemmas.List.Sums.{sum_by-append, sum_by-cons, sum_by-swap_remove}
use Rattle.std.proofs.lemmas.Option.{slice_get-get_or}
use Rattle.policy_index.specs.Helps.Kept.{AreCounted, AreListed, IsIndex, has_front, has_hash, has_hash_at, is_front, one_if}
use Rattle.policy_index.specs.Lists.{Lists, slots_at}
use Rattle.policy_index.specs.declared.mark.Mark.{Mark}

-- ---- the mark in a slot

beyond : (marks : List Mark) (slot : ℕ) → length marks ≤ slot → slice_get marks slot ≡ None
beyond [] slot low = refl
beyond (m ∷ ms) zero low = absurd (omega (arith, low))
beyond (m ∷ ms) (suc slot) low = beyond ms slot (omega (arith, low))

pub hash_within : (hash : ℕ) (marks : List Mark) (slot : ℕ) (d : Mark) → slot < length marks → has_hash_at hash marks slot ≡ has_hash hash (get_or marks slot d)
hash_within hash marks slot d within = ap (λ (o : Option Mark). option_map_or (has_hash hash) o false) (slice_get-get_or marks slot d within)

pub hash_beyond : (hash : ℕ) (marks : List Mark) (slot : ℕ) → length marks ≤ slot → has_hash_at hash marks slot ≡ false
hash_beyond hash marks slot low = ap (λ (o : Option Mark). option_map_or (has_hash hash) o false) (beyond marks slot low)

get_push : (marks : List Mark) (mark d : Mark) → get_or (marks ++ mark ∷ []) (length marks) d ≡ mark
get_push [] mark d = refl
get_push (m ∷ ms) mark d = get_push ms mark d

get_front : (marks : List Mark) (mark d : Mark) (slot : ℕ) → slot < length marks → get_or (marks ++ mark ∷ []) slot d ≡ get_or marks slot d
get_front [] mark d slot within = absurd (omega (arith, within))
get_front (m ∷ ms) mark d zero within = refl
get_front (m ∷ ms) mark d (suc slot) within = get_front ms mark d slot (omega (arith, within))

pub longer : (marks : List Mark) (mark : Mark) → length (marks ++ mark ∷ []) ≡ length marks + 1
longer marks mark = length-append marks (mark ∷ [])

-- how two numbers stand to each other
pub data Stand (m n : ℕ) : Type 0 where
  below : m < n → Stand m n
  same : m ≡ n → Stand m n
  above : n < m → Stand m n

stand : (m n : ℕ) → Stand m n
stand zero zero = same refl
stand zero (suc n) = below (omega arith)
stand (suc m) zero = above (omega arith)
stand (suc m) (suc n) = by (stand m n)
  where
    by : Stand m n → Stand (suc m) (suc n)
    by (below less) = below (omega (arith, less))
    by (same is) = same (ap suc is)
    by (above more) = above (omega (arith, more))

both : (a b : Bool) → b ≡ false → one_if (a && b) ≡ 0
both true b is = ap one_if is
both false b is = refl

along : (a b : Bool) → b ≡ true → one_if (a && b) ≡ one_if a
along true b is = ap one_if is
along false b is = refl

apart : (m n : ℕ) → m ≢ n → (m == n) ≡ false
apart m n differ = ne_eqb m n differ

-- ---- a row comes into the next slot

pub push_hash : (marks : List Mark) (mark : Mark) (hash slot : ℕ) → one_if (has_hash_at hash (marks ++ mark ∷ []) slot) ≡ one_if (has_hash_at hash marks slot) + one_if (mark.hash == hash && slot == length marks)
push_hash marks mark hash slot = by (stand slot (length marks))
  where
    by : Stand slot (length marks) → one_if (has_hash_at hash (marks ++ mark ∷ []) slot) ≡ one_if (has_hash_at hash marks slot) + one_if (mark.hash == hash && slot == length marks)
    by (below less) =
        let new = hash_within hash (marks ++ mark ∷ []) slot mark (omega (arith, less, longer marks mark)) ∙ ap (has_hash hash) (get_front marks mark mark slot less) ∙ sym (hash_within hash marks slot mark less) in
        omega (arith, ap one_if new, both (mark.hash == hash) (slot == length marks) (apart slot (length marks) (λ e. absurd (omega (arith, less, e)))))
    by (same is) =
        let new = hash_within hash (marks ++ mark ∷ []) slot mark (omega (arith, is, longer marks mark)) ∙ ap (has_hash hash) (ap (λ (n : ℕ). get_or (marks ++ mark ∷ []) n mark) is ∙ get_push marks mark mark) in
        let old = hash_beyond hash marks slot (omega (arith, is)) in
        omega (arith, ap one_if new, ap one_if old, along (mark.hash == hash) (slot == length marks) (eq-eqb slot (length marks) is))
    by (above more) =
        let new = hash_beyond hash (marks ++ mark ∷ []) slot (omega (arith, more, longer marks mark)) in
        let old = hash_beyond hash marks slot (omega (arith, more)) in
        omega (arith, ap one_if new, ap one_if old, both (mark.hash == hash) (slot == length marks) (apart slot (length marks) (λ e. absurd (omega (arith, more, e)))))

-- a list with one slot more
pub count_push : (slots : List ℕ) (at slot : ℕ) → count_by (nat_eq slot) (slots ++ at ∷ []) ≡ count_by (nat_eq slot) slots + one_if (slot == at)
count_push slots at slot =
    sum_by-append (λ (y : ℕ). cond (nat_eq slot y) 1 0) slots (at ∷ [])
    ∙ ap (λ (n : ℕ). count_by (nat_eq slot) slots + n) (sum_by-cons (λ (y : ℕ). cond (nat_eq slot y) 1 0) at [] ∙ zero_more (cond (slot == at) 1 0))
  where
    zero_more : (n : ℕ) → n + 0 ≡ n
    zero_more n = omega arith

put_count : (b : Bool) (slots new : List ℕ) (at slot : ℕ) → new ≡ (if b then slots ++ at ∷ [] else slots) → count_by (nat_eq slot) new ≡ count_by (nat_eq slot) slots + one_if (b && slot == at)
put_count true slots new at slot is = ap (count_by (nat_eq slot)) is ∙ count_push slots at slot
put_count false slots new at slot is = omega (arith, ap (count_by (nat_eq slot)) is)

pub listed_push : (marks : List Mark) (mark : Mark) (at : ℕ) (old new : Lists) → at ≡ length marks → AreListed marks old → ((other : ℕ) → slots_at new other ≡ (if mark.hash == other then slots_at old other ++ at ∷ [] else slots_at old other))
    → AreListed (marks ++ mark ∷ []) new
listed_push marks mark at old new last listed put hash slot =
    let put_last : slots_at new hash ≡ (if mark.hash == hash then slots_at old hash ++ length marks ∷ [] else slots_at old hash) = subst (λ (n : ℕ). slots_at new hash ≡ (if mark.hash == hash then slots_at old hash ++ n ∷ [] else slots_at old hash)) last (put hash) in
    omega (arith, put_count (mark.hash == hash) (slots_at old hash) (slots_at new hash) (length marks) slot put_last, listed hash slot, push_hash marks mark hash slot)

-- ---- a row is taken out, and that of the last slot comes there

module _ (marks : List Mark) (slot : ℕ) (within : slot < length marks) (d : Mark) where
  abbrev last : ℕ
  last = length marks - 1

  abbrev gone : Mark
  gone = get_or marks slot d

  abbrev moved : Mark
  moved = get_or marks (length marks - 1) d

  abbrev left : List Mark
  left = swap_remove marks slot d

  pub shorter : length (swap_remove marks slot d) ≡ length marks - 1
  shorter = length-take-le (length marks - 1) (set marks slot (get_or marks (length marks - 1) d)) (omega (arith, within, length-set marks slot (get_or marks (length marks - 1) d)))

  left_here : slot < length marks - 1 → get_or (swap_remove marks slot d) slot d ≡ moved
  left_here less = get_or-take (length marks - 1) (set marks slot moved) slot d less ∙ get_or-set_same marks slot moved d within

  left_there : (at : ℕ) → at < length marks - 1 → at ≢ slot → get_or (swap_remove marks slot d) at d ≡ get_or marks at d
  left_there at less differs = get_or-take (length marks - 1) (set marks slot moved) at d less ∙ get_or-set_other marks slot at moved d differs

  pub remove_hash : (hash at : ℕ)
      → one_if (has_hash_at hash left at) + one_if (moved.hash == hash && last == at) + one_if (gone.hash == hash && slot == at) ≡ one_if (has_hash_at hash marks at) + one_if (moved.hash == hash && slot == at)
  remove_hash hash at = by (stand at (length marks - 1)) (stand at slot)
    where
      m : ℕ
      m = one_if (moved.hash == hash)

      here_is : at ≡ slot → one_if (has_hash_at hash marks at) ≡ one_if (gone.hash == hash)
      here_is is = ap one_if (hash_within hash marks at d (omega (arith, within, is)) ∙ ap (λ (n : ℕ). has_hash hash (get_or marks n d)) is)

      last_is : at ≡ length marks - 1 → one_if (has_hash_at hash marks at) ≡ one_if (moved.hash == hash)
      last_is is = ap one_if (hash_within hash marks at d (omega (arith, within, is)) ∙ ap (λ (n : ℕ). has_hash hash (get_or marks n d)) is)

      not_last : at ≢ length marks - 1 → one_if (moved.hash == hash && last == at) ≡ 0
      not_last differs = both (moved.hash == hash) (last == at) (apart last at (λ e. differs (sym e)))

      not_here : (mark : Mark) → at ≢ slot → one_if (mark.hash == hash && slot == at) ≡ 0
      not_here mark differs = both (mark.hash == hash) (slot == at) (apart slot at (λ e. differs (sym e)))

      is_here : (mark : Mark) → at ≡ slot → one_if (mark.hash == hash && slot == at) ≡ one_if (mark.hash == hash)
      is_here mark is = along (mark.hash == hash) (slot == at) (eq-eqb slot at (sym is))

      is_last : at ≡ length marks - 1 → one_if (moved.hash == hash && last == at) ≡ one_if (moved.hash == hash)
      is_last is = along (moved.hash == hash) (last == at) (eq-eqb last at (sym is))

      none_left : length marks - 1 ≤ at → one_if (has_hash_at hash left at) ≡ 0
      none_left low = ap one_if (hash_beyond hash left at (omega (arith, low, shorter)))

      by : Stand at (length marks - 1) → Stand at slot
          → one_if (has_hash_at hash left at) + one_if (moved.hash == hash && last == at) + one_if (gone.hash == hash && slot == at) ≡ one_if (has_hash_at hash marks at) + one_if (moved.hash == hash && slot == at)
      by (below less) (same is) =
          let new = ap one_if (hash_within hash left at d (omega (arith, less, shorter)) ∙ ap (λ (n : ℕ). has_hash hash (get_or left n d)) is ∙ ap (has_hash hash) (left_here (omega (arith, less, is)))) in
          omega (arith, new, not_last (λ e. absurd (omega (arith, less, e))), is_here gone is, is_here moved is, here_is is)
      by (below less) (below other) =
          let apart_here : at ≢ slot = λ e. absurd (omega (arith, other, e)) in
          let new = ap one_if (hash_within hash left at d (omega (arith, less, shorter)) ∙ ap (has_hash hash) (left_there at less apart_here) ∙ sym (hash_within hash marks at d (omega (arith, less)))) in
          omega (arith, new, not_last (λ e. absurd (omega (arith, less, e))), not_here gone apart_here, not_here moved apart_here)
      by (below less) (above other) =
          let apart_here : at ≢ slot = λ e. absurd (omega (arith, other, e)) in
          let new = ap one_if (hash_within hash left at d (omega (arith, less, shorter)) ∙ ap (has_hash hash) (left_there at less apart_here) ∙ sym (hash_within hash marks at d (omega (arith, less)))) in
          omega (arith, new, not_last (λ e. absurd (omega (arith, less, e))), not_here gone apart_here, not_here moved apart_here)
      by (same ends) (same is) =
          let one : slot ≡ length marks - 1 = sym is ∙ ends in
          let equal : one_if (gone.hash == hash) ≡ one_if (moved.hash == hash) = ap (λ (n : ℕ). one_if ((get_or marks n d).hash == hash)) one in
          omega (arith, none_left (omega (arith, ends)), is_last ends, is_here gone is, is_here moved is, last_is ends, equal)
      by (same ends) (below other) = absurd (omega (arith, ends, other, within))
      by (same ends) (above other) =
          let apart_here : at ≢ slot = λ e. absurd (omega (arith, other, e)) in
          omega (arith, none_left (omega (arith, ends)), is_last ends, not_here gone apart_here, not_here moved apart_here, last_is ends)
      by (above more) (same is) = absurd (omega (arith, more, is, within))
      by (above more) (below other) = absurd (omega (arith, more, other, within))
      by (above more) (above other) =
          let apart_here : at ≢ slot = λ e. absurd (omega (arith, other, e)) in
          omega (arith, none_left (omega (arith, more)), not_last (λ e. absurd (omega (arith, more, e))), not_here gone apart_here, not_here moved apart_here, ap one_if (hash_beyond hash marks at (omega (arith, more))))

  pub listed_remove : (old mid new : Lists) → AreListed marks old
      → ((hash at : ℕ) → count_by (nat_eq at) (slots_at mid hash) + one_if (gone.hash == hash && slot == at) ≡ count_by (nat_eq at) (slots_at old hash))
      → ((hash at : ℕ) → count_by (nat_eq at) (slots_at new hash) + one_if (moved.hash == hash && last == at) ≡ count_by (nat_eq at) (slots_at mid hash) + one_if (moved.hash == hash && slot == at))
      → AreListed left new
  listed_remove old mid new listed took renamed hash at = omega (arith, took hash at, renamed hash at, listed hash at, remove_hash hash at)

  -- ---- another row comes into a slot

  module _ (mark : Mark) where
    pub set_hash : (hash at : ℕ) → one_if (has_hash_at hash (set marks slot mark) at) + one_if (gone.hash == hash && slot == at) ≡ one_if (has_hash_at hash marks at) + one_if (mark.hash == hash && slot == at)
    set_hash hash at = by (stand at slot)
      where
        same_length : length (set marks slot mark) ≡ length marks
        same_length = length-set marks slot mark

        other : at ≢ slot → one_if (has_hash_at hash (set marks slot mark) at) ≡ one_if (has_hash_at hash marks at)
        other differs = by_place (stand at (length marks))
          where
            by_place : Stand at (length marks) → one_if (has_hash_at hash (set marks slot mark) at) ≡ one_if (has_hash_at hash marks at)
            by_place (below less) =
                ap one_if (hash_within hash (set marks slot mark) at d (omega (arith, less, same_length)) ∙ ap (has_hash hash) (get_or-set_other marks slot at mark d differs) ∙ sym (hash_within hash marks at d less))
            by_place (same is) = ap one_if (hash_beyond hash (set marks slot mark) at (omega (arith, is, same_length)) ∙ sym (hash_beyond hash marks at (omega (arith, is))))
            by_place (above more) = ap one_if (hash_beyond hash (set marks slot mark) at (omega (arith, more, same_length)) ∙ sym (hash_beyond hash marks at (omega (arith, more))))

        apart_from : (one : Mark) → at ≢ slot → one_if (one.hash == hash && slot == at) ≡ 0
        apart_from one differs = both (one.hash == hash) (slot == at) (apart slot at (λ e. differs (sym e)))

        at_it : (one : Mark) → at ≡ slot → one_if (one.hash == hash && slot == at) ≡ one_if (one.hash == hash)
        at_it one is = along (one.hash == hash) (slot == at) (eq-eqb slot at (sym is))

        by : Stand at slot → one_if (has_hash_at hash (set marks slot mark) at) + one_if (gone.hash == hash && slot == at) ≡ one_if (has_hash_at hash marks at) + one_if (mark.hash == hash && slot == at)
        by (same is) =
            let new = ap one_if (hash_within hash (set marks slot mark) at d (omega (arith, within, is, same_length)) ∙ ap (λ (n : ℕ). has_hash hash (get_or (set marks slot mark) n d)) is ∙ ap (has_hash hash) (get_or-set_same marks slot mark d within)) in
            let old = ap one_if (hash_within hash marks at d (omega (arith, within, is)) ∙ ap (λ (n : ℕ). has_hash hash (get_or marks n d)) is) in
            omega (arith, new, old, at_it gone is, at_it mark is)
        by (below less) = let differs : at ≢ slot = λ e. absurd (omega (arith, less, e)) in omega (arith, other differs, apart_from gone differs, apart_from mark differs)
        by (above more) = let differs : at ≢ slot = λ e. absurd (omega (arith, more, e)) in omega (arith, other differs, apart_from gone differs, apart_from mark differs)

    pub listed_set : (old mid new : Lists) → AreListed marks old
        → ((hash at : ℕ) → count_by (nat_eq at) (slots_at mid hash) + one_if (gone.hash == hash && slot == at) ≡ count_by (nat_eq at) (slots_at old hash))
        → ((hash : ℕ) → slots_at new hash ≡ (if mark.hash == hash then slots_at mid hash ++ slot ∷ [] else slots_at mid hash))
        → AreListed (set marks slot mark) new
    listed_set old mid new listed took put hash at =
        let swap : one_if (mark.hash == hash && at == slot) ≡ one_if (mark.hash == hash && slot == at) = turned (mark.hash == hash) (stand at slot) in
        omega (arith, took hash at, put_count (mark.hash == hash) (slots_at mid hash) (slots_at new hash) slot at (put hash), listed hash at, set_hash hash at, swap)
      where
        turned : (b : Bool) → Stand at slot → one_if (b && at == slot) ≡ one_if (b && slot == at)
        turned b (same is) = along b (at == slot) (eq-eqb at slot is) ∙ sym (along b (slot == at) (eq-eqb slot at (sym is)))
        turned b (below less) = both b (at == slot) (apart at slot (λ e. absurd (omega (arith, less, e)))) ∙ sym (both b (slot == at) (apart slot at (λ e. absurd (omega (arith, less, e)))))
        turned b (above more) = both b (at == slot) (apart at slot (λ e. absurd (omega (arith, more, e)))) ∙ sym (both b (slot == at) (apart slot at (λ e. absurd (omega (arith, more, e)))))

-- ---- how many rows have a front of each length

pub counted_push : (marks : List Mark) (mark : Mark) (old new : List ℕ) → AreCounted marks old → length new ≡ length old → ((size : ℕ) → get_or new size 0 ≡ get_or old size 0 + one_if (is_front size mark.front)) → AreCounted (marks ++ mark ∷ []) new
counted_push marks mark old new counted sizes more = record {
  sizes = sizes ∙ counted.sizes;
  each = λ size.
      let longer_by = sum_by-append (λ (m : Mark). cond (has_front size m) 1 0) marks (mark ∷ []) in
      let one = sum_by-cons (λ (m : Mark). cond (has_front size m) 1 0) mark [] in
      omega (arith, more size, counted.each size, longer_by, one);
}

pub counted_remove : (marks : List Mark) (slot : ℕ) (d : Mark) (old new : List ℕ) → slot < length marks → AreCounted marks old → length new ≡ length old → ((size : ℕ) → get_or new size 0 + one_if (is_front size (get_or marks slot d).front) ≡ get_or old size 0) → AreCounted (swap_remove marks slot d) new
counted_remove marks slot d old new within counted sizes less = record {
  sizes = sizes ∙ counted.sizes;
  each = λ size. omega (arith, less size, counted.each size, sum_by-swap_remove (λ (m : Mark). cond (has_front size m) 1 0) marks slot d within);
}

sum_set : (f : Mark → ℕ) (marks : List Mark) (slot : ℕ) (mark d : Mark) → slot < length marks → sum_by f (set marks slot mark) + f (get_or marks slot d) ≡ sum_by f marks + f mark
sum_set f [] slot mark d within = absurd (omega (arith, within))
sum_set f (m ∷ ms) zero mark d within = omega (arith, sum_by-cons f mark ms, sum_by-cons f m ms)
sum_set f (m ∷ ms) (suc slot) mark d within = omega (arith, sum_by-cons f m (set ms slot mark), sum_by-cons f m ms, sum_set f ms slot mark d (omega (arith, within)))

pub counted_set : (marks : List Mark) (slot : ℕ) (mark d : Mark) (old mid new : List ℕ) → slot < length marks → AreCounted marks old → length mid ≡ length old → length new ≡ length mid
    → ((size : ℕ) → get_or mid size 0 + one_if (is_front size (get_or marks slot d).front) ≡ get_or old size 0) → ((size : ℕ) → get_or new size 0 ≡ get_or mid size 0 + one_if (is_front size mark.front)) → AreCounted (set marks slot mark) new
counted_set marks slot mark d old mid new within counted first second less more = record {
  sizes = second ∙ first ∙ counted.sizes;
  each = λ size. omega (arith, less size, more size, counted.each size, sum_set (λ (m : Mark). cond (has_front size m) 1 0) marks slot mark d within);
}

-- ---- a row that is taken out, as a table keeps it

-- what it comes to does not rest on a default
pub swap_same : (marks : List Mark) (slot : ℕ) (one other : Mark) → slot < length marks → swap_remove marks slot one ≡ swap_remove marks slot other
swap_same marks slot one other within =
    ap (λ (m : Mark). take (length marks - 1) (set marks slot m)) (get_or_default marks (length marks - 1) one other (omega (arith, within)))

pub took_at : (marks : List Mark) (slot : ℕ) (gone : Mark) → gone ≡ get_or marks slot gone → (old mid : Lists) → ((other at : ℕ) → count_by (nat_eq at) (slots_at mid other) + one_if (gone.hash == other && slot == at) ≡ count_by (nat_eq at) (slots_at old other))
    → (other at : ℕ) → count_by (nat_eq at) (slots_at mid other) + one_if ((get_or marks slot gone).hash == other && slot == at) ≡ count_by (nat_eq at) (slots_at old other)
took_at marks slot gone is old mid took other at = subst (λ (m : Mark). count_by (nat_eq at) (slots_at mid other) + one_if (m.hash == other && slot == at) ≡ count_by (nat_eq at) (slots_at old other)) is (took other at)

module _ (marks : List Mark) (slot end hash : ℕ) (gone d : Mark) (within : slot < length marks) (gone_is : gone ≡ get_or marks slot gone) (end_is : end ≡ length marks - 1) (hash_is : hash ≡ (get_or marks end d).hash) where
  -- the hash of the last row
  ending : (get_or marks (length marks - 1) gone).hash ≡ hash
  ending =
      ap (λ (m : Mark). m.hash) (get_or_default marks (length marks - 1) gone d (omega (arith, within))) ∙ ap (λ (n : ℕ). (get_or marks n d).hash) (sym end_is) ∙ sym hash_is

  pub listed_left : (old mid new : Lists) → AreListed marks old → ((other at : ℕ) → count_by (nat_eq at) (slots_at mid other) + one_if (gone.hash == other && slot == at) ≡ count_by (nat_eq at) (slots_at old other))
      → ((other at : ℕ) → count_by (nat_eq at) (slots_at new other) + one_if (hash == other && end == at) ≡ count_by (nat_eq at) (slots_at mid other) + one_if (hash == other && slot == at))
      → AreListed (swap_remove marks slot gone) new
  listed_left old mid new listed took renamed =
      listed_remove marks slot within gone old mid new listed (took_at marks slot gone gone_is old mid took)
      (λ other at.
      subst (λ (h : ℕ). count_by (nat_eq at) (slots_at new other) + one_if (h == other && length marks - 1 == at) ≡ count_by (nat_eq at) (slots_at mid other) + one_if (h == other && slot == at)) (sym ending)
      (subst (λ (n : ℕ). count_by (nat_eq at) (slots_at new other) + one_if (hash == other && n == at) ≡ count_by (nat_eq at) (slots_at mid other) + one_if (hash == other && slot == at)) end_is (renamed other at)))

-- ---- counts of fronts neither run over nor below

-- a row that passes is counted
one_counted : (test : Mark → Bool) (marks : List Mark) (slot : ℕ) (d : Mark) → slot < length marks → test (get_or marks slot d) ≡ true → 0 < count_by test marks
one_counted test [] slot d within passes = absurd (omega (arith, within))
one_counted test (m ∷ ms) zero d within passes = omega (arith, sum_by-cons (λ (x : Mark). cond (test x) 1 0) m ms, ap (λ (b : Bool). cond {A = ℕ} b 1 0) passes)
one_counted test (m ∷ ms) (suc slot) d within passes = omega (arith, sum_by-cons (λ (x : Mark). cond (test x) 1 0) m ms, one_counted test ms slot d (omega (arith, within)) passes)

one_most : (b : Bool) → cond {A = ℕ} b 1 0 ≤ 1
one_most true = omega arith
one_most false = omega arith

few_counted : (test : Mark → Bool) (marks : List Mark) → count_by test marks ≤ length marks
few_counted test [] = omega arith
few_counted test (m ∷ ms) = omega (arith, sum_by-cons (λ (x : Mark). cond (test x) 1 0) m ms, one_most (test m), few_counted test ms)

-- one that fails is not
others_counted : (test : Mark → Bool) (marks : List Mark) (slot : ℕ) (d : Mark) → slot < length marks → count_by test marks + 1 ≤ length marks + one_if (test (get_or marks slot d))
others_counted test [] slot d within = absurd (omega (arith, within))
others_counted test (m ∷ ms) zero d within = omega (arith, sum_by-cons (λ (x : Mark). cond (test x) 1 0) m ms, few_counted test ms, same_one (test m))
  where
    same_one : (b : Bool) → cond {A = ℕ} b 1 0 ≡ one_if b
    same_one true = refl
    same_one false = refl
others_counted test (m ∷ ms) (suc slot) d within = omega (arith, sum_by-cons (λ (x : Mark). cond (test x) 1 0) m ms, one_most (test m), others_counted test ms slot d (omega (arith, within)))

-- the front of a row is counted
pub front_counted : (marks : List Mark) (counts : List ℕ) (slot : ℕ) (gone : Mark) → slot < length marks → gone ≡ get_or marks slot gone → AreCounted marks counts → IfSome gone.front (λ size. 0 < get_or counts size 0)
front_counted marks counts slot gone within is counted = by gone.front refl
  where
    by : (o : Option ℕ) → gone.front ≡ o → IfSome o (λ size. 0 < get_or counts size 0)
    by None front = tt
    by (Some size) front =
        omega (arith, counted.each size, one_counted (has_front size) marks slot gone within (ap (λ (m : Mark). is_front size m.front) (sym is) ∙ ap (is_front size) front ∙ eq-eqb size size refl))

-- one row more can be counted
pub front_fits : (marks : List Mark) (counts : List ℕ) (mark : Mark) → length marks + 1 < 2 ^ 32 → AreCounted marks counts → IfSome mark.front (λ size. get_or counts size 0 + 1 < 2 ^ 32)
front_fits marks counts mark few counted = by mark.front
  where
    by : (o : Option ℕ) → IfSome o (λ size. get_or counts size 0 + 1 < 2 ^ 32)
    by None = tt
    by (Some size) = omega (arith, counted.each size, few_counted (has_front size) marks, few)

-- so can one for another
pub front_replaced : (marks : List Mark) (old mid : List ℕ) (slot : ℕ) (gone mark : Mark) → length marks < 2 ^ 32 → slot < length marks → gone ≡ get_or marks slot gone → AreCounted marks old
    → ((size : ℕ) → get_or mid size 0 + one_if (is_front size gone.front) ≡ get_or old size 0) → IfSome mark.front (λ size. get_or mid size 0 + 1 < 2 ^ 32)
front_replaced marks old mid slot gone mark few within is counted took = by mark.front
  where
    by : (o : Option ℕ) → IfSome o (λ size. get_or mid size 0 + 1 < 2 ^ 32)
    by None = tt
    by (Some size) =
        let same_one : one_if (has_front size (get_or marks slot gone)) ≡ one_if (is_front size gone.front) = ap (λ (m : Mark). one_if (is_front size m.front)) (sym is) in
        omega (arith, took size, counted.each size, others_counted (has_front size) marks slot gone within, same_one, few)

-- ---- of no rows

no_fronts : (n size : ℕ) → ◌≡◌ {A = ℕ} (get_or {A = ℕ} (replicate n 0) size 0) 0
no_fronts zero size = refl
no_fronts (suc n) zero = refl
no_fronts (suc n) (suc size) = no_fronts n size

pub none_kept : (marks : List Mark) (lists : Lists) (counts places : List ℕ) → marks ≡ [] → lists ≡ [] → counts ≡ replicate 256 0 → places ≡ [] → IsIndex marks lists counts places
none_kept marks lists counts places no_marks no_lists no_counts no_places =
    subst (λ (m : List Mark). IsIndex m lists counts places) (sym no_marks)
    (subst (λ (l : Lists). IsIndex [] l counts places) (sym no_lists)
    (subst (λ (n : List ℕ). IsIndex [] [] n places) (sym no_counts)
    (subst (λ (p : List ℕ). IsIndex [] [] (replicate 256 0) p) (sym no_places) (record {
      few = omega arith;
      listed = λ hash slot. refl;
      counted = record { sizes = length-replicate {A = ℕ} 256 0; each = λ size. no_fronts 256 size };
      placed = record { sizes = refl; each = λ slot d low. absurd (omega (arith, low)) };
    }))))
