-- Where each slot stands in the list of its hash, when a row comes, goes, or gets another slot.
use Rattle.std.proofs.Common.{◌≡◌, ◌≢◌, ◌⊎◌, inl, inr, ℕ, zero, suc, ◌+◌, ◌-◌, ◌<◌, ◌≤◌, ◌==◌, ◌&&◌, ◌||◌, Bool, true, false, cond, if◌then◌else◌, List, [], ◌∷◌, ◌++◌, length, length-append, get_or, set, slice_get, None, Some, refl, sym, ap, subst, ◌∙◌, arith, true≢false}
use Rattle.std.specs.Prelude.{nat_eq}
use Rattle.std.specs.List.{AllByRecursion, IsDistinct, count_by, list_any, swap_remove}
use Rattle.std.proofs.Math.Seq.{get_or-append_seam}
use Rattle.std.proofs.lemmas.Bool.{cases_eq, cases_lt, eq-eqb, eqb-true, ne_eqb}
use Rattle.std.proofs.lemmas.Cmp.{nat_eq_equiv}
use Rattle.std.proofs.lemmas.List.{get_or_append_left, get_or-set_other, get_or-set_same, get_or-take, get_or_default, length-set, length-take-le}
use Rattle.std.proofs.lemmas.List.Sums.{sum_by-cons, sum_by-set, sum_by-swap_remove}
use Rattle.std.proofs.lemmas.Map.Steps.{length-le_from_distinct_below}
use Rattle.std.proofs.lemmas.Option.{get_or_from_slice_get, same_Some, slice_get-get_or, slice_get_within}
use Rattle.policy_index.specs.Helps.Kept.{AreListed, ArePlaced, IsAt, has_hash_at, one_if}
use Rattle.policy_index.specs.Lists.{Lists, slots_at}
use Rattle.policy_index.specs.declared.mark.Mark.{Mark}
use Rattle.policy_index.proofs.FoundLemmas.{has_within}
use Rattle.policy_index.proofs.MarkLemmas.{hash_within}

-- ---- one list

-- where an item is taken out and the last put there
pub swap_length : {X : Type 0} (xs : List X) (at : ℕ) (d : X) → at < length xs → length (swap_remove xs at d) ≡ length xs - 1
swap_length {X} xs at d within = length-take-le (length xs - 1) (set xs at (get_or xs (length xs - 1) d)) (omega (arith, within, length-set xs at (get_or xs (length xs - 1) d)))

kept_at : {X : Type 0} (xs : List X) (at k : ℕ) (d e : X) → k < length xs - 1 → k ≢ at → get_or (swap_remove xs at d) k e ≡ get_or xs k e
kept_at {X} xs at k d e low differ = get_or-take (length xs - 1) (set xs at (get_or xs (length xs - 1) d)) k e low ∙ get_or-set_other xs at k (get_or xs (length xs - 1) d) e differ

came_to : {X : Type 0} (xs : List X) (at : ℕ) (d e : X) → at < length xs - 1 → get_or (swap_remove xs at d) at e ≡ get_or xs (length xs - 1) d
came_to {X} xs at d e low = get_or-take (length xs - 1) (set xs at (get_or xs (length xs - 1) d)) at e low ∙ get_or-set_same xs at (get_or xs (length xs - 1) d) e (omega (arith, low))

-- what stands elsewhere still does
swap_other : (l : List ℕ) (at k x d : ℕ) → at < length l → slice_get l k ≡ Some x → k ≢ at → k ≢ length l - 1 → slice_get (swap_remove l at d) k ≡ Some x
swap_other l at k x d within there differ not_last =
    let inside : k < length l = slice_get_within l k x there in
    let low : k < length l - 1 = omega (arith, inside, not_last) in
    slice_get-get_or (swap_remove l at d) k x (omega (arith, low, swap_length l at d within)) ∙ ap (λ (y : ℕ). Some y) (kept_at l at k d x low differ ∙ get_or_from_slice_get l k x x there)

swap_here : (l : List ℕ) (at d : ℕ) → at < length l - 1 → slice_get (swap_remove l at d) at ≡ Some (get_or l (length l - 1) d)
swap_here l at d low =
    slice_get-get_or (swap_remove l at d) at d (omega (arith, low, swap_length l at d (omega (arith, low)))) ∙ ap (λ (y : ℕ). Some y) (came_to l at d d low)

-- where another one is written at a place
set_other : (l : List ℕ) (at k x y : ℕ) → slice_get l k ≡ Some x → k ≢ at → slice_get (set l at y) k ≡ Some x
set_other l at k x y there differ =
    slice_get-get_or (set l at y) k x (omega (arith, slice_get_within l k x there, length-set l at y)) ∙ ap (λ (z : ℕ). Some z) (get_or-set_other l at k y x differ ∙ get_or_from_slice_get l k x x there)

set_here : (l : List ℕ) (at y : ℕ) → at < length l → slice_get (set l at y) at ≡ Some y
set_here l at y within = slice_get-get_or (set l at y) at y (omega (arith, within, length-set l at y)) ∙ ap (λ (z : ℕ). Some z) (get_or-set_same l at y y within)

-- where one is put behind the others
push_front : (l : List ℕ) (k x y : ℕ) → slice_get l k ≡ Some x → slice_get (l ++ y ∷ []) k ≡ Some x
push_front l k x y there =
    let inside : k < length l = slice_get_within l k x there in
    slice_get-get_or (l ++ y ∷ []) k x (omega (arith, inside, length-append l (y ∷ []))) ∙ ap (λ (z : ℕ). Some z) (get_or_append_left l (y ∷ []) x k inside ∙ get_or_from_slice_get l k x x there)

push_end : (l : List ℕ) (y : ℕ) → slice_get (l ++ y ∷ []) (length l) ≡ Some y
push_end l y = slice_get-get_or (l ++ y ∷ []) (length l) y (omega (arith, length-append l (y ∷ []))) ∙ ap (λ (z : ℕ). Some z) (get_or-append_seam l y [] y)

-- ---- how often a slot stands in a list

at_counted : (l : List ℕ) (k x : ℕ) → slice_get l k ≡ Some x → 0 < count_by (nat_eq x) l
at_counted [] k x there = absurd cc
at_counted (y ∷ l) zero x there = omega (arith, sum_by-cons (λ (z : ℕ). cond (nat_eq x z) 1 0) y l, ap (λ (b : Bool). cond {A = ℕ} b 1 0) (eq-eqb x y (sym (same_Some y x there))))
at_counted (y ∷ l) (suc k) x there = omega (arith, sum_by-cons (λ (z : ℕ). cond (nat_eq x z) 1 0) y l, at_counted l k x there)

any_counted : (l : List ℕ) (x : ℕ) → list_any (nat_eq x) l ≡ true → 0 < count_by (nat_eq x) l
any_counted [] x any = absurd (true≢false (sym any))
any_counted (y ∷ l) x any = by (nat_eq x y) refl any (λ later. any_counted l x later)
  where
    by : (b : Bool) → nat_eq x y ≡ b → (b || list_any (nat_eq x) l) ≡ true → (list_any (nat_eq x) l ≡ true → 0 < count_by (nat_eq x) l) → 0 < count_by (nat_eq x) (y ∷ l)
    by true is found rest = omega (arith, sum_by-cons (λ (z : ℕ). cond (nat_eq x z) 1 0) y l, ap (λ (b : Bool). cond {A = ℕ} b 1 0) is)
    by false is found rest = omega (arith, sum_by-cons (λ (z : ℕ). cond (nat_eq x z) 1 0) y l, rest found)

-- numbers of which each stands once at most differ
apart_from : (y : ℕ) (l : List ℕ) → count_by (nat_eq y) l ≡ 0 → AllByRecursion (λ (z : ℕ). nat_eq y z ≡ false) l
apart_from y [] none = tt
apart_from y (z ∷ l) none = (first (nat_eq y z) refl, apart_from y l (omega (arith, none, sum_by-cons (λ (w : ℕ). cond (nat_eq y w) 1 0) z l)))
  where
    first : (b : Bool) → nat_eq y z ≡ b → nat_eq y z ≡ false
    first true is = absurd (omega (arith, none, sum_by-cons (λ (w : ℕ). cond (nat_eq y w) 1 0) z l, ap (λ (b : Bool). cond {A = ℕ} b 1 0) is))
    first false is = is

differ_all : (l : List ℕ) → ((x : ℕ) → count_by (nat_eq x) l ≤ 1) → IsDistinct nat_eq l
unfolding IsDistinct
differ_all [] few = tt
differ_all (y ∷ l) few = (
  apart_from y l (omega (arith, few y, sum_by-cons (λ (z : ℕ). cond (nat_eq y z) 1 0) y l, ap (λ (b : Bool). cond {A = ℕ} b 1 0) (eq-eqb y y refl))),
  differ_all l (λ x. omega (arith, few x, sum_by-cons (λ (z : ℕ). cond (nat_eq x z) 1 0) y l)),
)

-- ---- the slots under a hash

held : (b : Bool) → 0 < one_if b → b ≡ true
held true some = refl
held false some = absurd (omega (arith, some))

one_at_most : (b : Bool) → one_if b ≤ 1
one_at_most true = omega arith
one_at_most false = omega arith

-- there are not more of them than rows
pub listed_few : (marks : List Mark) (lists : Lists) (hash : ℕ) → AreListed marks lists → length (slots_at lists hash) ≤ length marks
listed_few marks lists hash listed =
    length-le_from_distinct_below (slots_at lists hash) (length marks) (differ_all (slots_at lists hash) (λ x. omega (arith, listed hash x, one_at_most (has_hash_at hash marks x))))
    (λ q any. has_within hash marks q (held (has_hash_at hash marks q) (omega (arith, listed hash q, any_counted (slots_at lists hash) q any))))

-- a slot that stands under a hash is that of a row with it
has_at : (marks : List Mark) (lists : Lists) (hash at slot : ℕ) → AreListed marks lists → IsAt lists hash at slot → has_hash_at hash marks slot ≡ true
has_at marks lists hash at slot listed there = held (has_hash_at hash marks slot) (omega (arith, listed hash slot, at_counted (slots_at lists hash) at slot there))

pub at_within : (marks : List Mark) (lists : Lists) (hash at slot : ℕ) → AreListed marks lists → IsAt lists hash at slot → slot < length marks
at_within marks lists hash at slot listed there = has_within hash marks slot (has_at marks lists hash at slot listed there)

-- and under no other
pub at_one : (marks : List Mark) (lists : Lists) → AreListed marks lists → (one other first second slot : ℕ) → IsAt lists one first slot → IsAt lists other second slot → one ≡ other
at_one marks lists listed one other first second slot here there = sym (is_of one first here) ∙ is_of other second there
  where
    none : Mark
    none = record { hash = 0; front = None }

    is_of : (hash at : ℕ) → IsAt lists hash at slot → (get_or marks slot none).hash ≡ hash
    is_of hash at stands =
        eqb-true (get_or marks slot none).hash hash (sym (hash_within hash marks slot none (at_within marks lists hash at slot listed stands)) ∙ has_at marks lists hash at slot listed stands)

-- ---- a slot that is taken out of its list

module _ (old mid : Lists) (hash place slot : ℕ) (there : IsAt old hash place slot) (took : (other : ℕ) → slots_at mid other ≡ (if hash == other then swap_remove (slots_at old other) place 0 else slots_at old other)) where
  -- it stands so under the hash, whatever its name
  stands_under : (other : ℕ) → (hash == other) ≡ true → IsAt old other place slot
  stands_under other same = subst (λ (h : ℕ). IsAt old h place slot) (eqb-true hash other same) there

  pub took_counts : (other at : ℕ) → count_by (nat_eq at) (slots_at mid other) + one_if (hash == other && slot == at) ≡ count_by (nat_eq at) (slots_at old other)
  took_counts other at = by (hash == other) refl (took other)
    where
      by : (b : Bool) → (hash == other) ≡ b → slots_at mid other ≡ (if b then swap_remove (slots_at old other) place 0 else slots_at old other)
          → count_by (nat_eq at) (slots_at mid other) + one_if (b && slot == at) ≡ count_by (nat_eq at) (slots_at old other)
      by true same is =
          let here : IsAt old other place slot = stands_under other same in
          let own : get_or (slots_at old other) place 0 ≡ slot = get_or_from_slice_get (slots_at old other) place slot 0 here in
          let one : cond {A = ℕ} (nat_eq at (get_or (slots_at old other) place 0)) 1 0 ≡ one_if (slot == at) = ap (λ (n : ℕ). cond {A = ℕ} (nat_eq at n) 1 0) own ∙ ap (λ (c : Bool). cond {A = ℕ} c 1 0) (nat_eq_equiv.symm at slot) in
          omega (arith, ap (count_by (nat_eq at)) is, sum_by-swap_remove (λ (y : ℕ). cond (nat_eq at y) 1 0) (slots_at old other) place 0 (slice_get_within (slots_at old other) place slot here), one)
      by false same is = omega (arith, ap (count_by (nat_eq at)) is)

  pub took_shorter : (other : ℕ) → length (slots_at mid other) ≤ length (slots_at old other)
  took_shorter other = by (hash == other) refl (took other)
    where
      by : (b : Bool) → (hash == other) ≡ b → slots_at mid other ≡ (if b then swap_remove (slots_at old other) place 0 else slots_at old other) → length (slots_at mid other) ≤ length (slots_at old other)
      by true same is =
          let within : place < length (slots_at old other) = slice_get_within (slots_at old other) place slot (stands_under other same) in
          omega (arith, ap (λ (l : List ℕ). length l) is, swap_length (slots_at old other) place 0 within)
      by false same is = omega (arith, ap (λ (l : List ℕ). length l) is)

  -- the last one of the list
  pub last_there : (moved : ℕ) → moved ≡ get_or (slots_at old hash) (length (slots_at old hash) - 1) 0 → IsAt old hash (length (slots_at old hash) - 1) moved
  last_there moved is =
      slice_get-get_or (slots_at old hash) (length (slots_at old hash) - 1) 0 (omega (arith, slice_get_within (slots_at old hash) place slot there)) ∙ ap (λ (x : ℕ). Some x) (sym is)

  -- with the place of that one changed, all others stand at their places
  module _ (moved : ℕ) (places after : List ℕ) (moved_is : moved ≡ get_or (slots_at old hash) (length (slots_at old hash) - 1) 0) (after_is : after ≡ set places moved place) (within : moved < length places) (own : (one other first second one_slot : ℕ) → IsAt old one first one_slot → IsAt old other second one_slot → one ≡ other) where
    took_moved : (other : ℕ) → moved ≢ slot → IsAt old other (get_or places moved 0) moved → IsAt mid other (get_or after moved 0) moved
    took_moved other differ stands =
        let same : other ≡ hash = own other hash (get_or places moved 0) (length (slots_at old hash) - 1) moved stands (last_there moved moved_is) in
        let inside : place < length (slots_at old hash) = slice_get_within (slots_at old hash) place slot there in
        let not_last : place ≢ length (slots_at old hash) - 1 = λ e. differ (same_Some moved slot (sym (last_there moved moved_is) ∙ ap (slice_get (slots_at old hash)) (sym e) ∙ there)) in
        let here : slice_get (slots_at mid hash) place ≡ Some moved =
        ap (λ (l : List ℕ). slice_get l place) (took hash ∙ ap (λ (b : Bool). if b then swap_remove (slots_at old hash) place 0 else slots_at old hash) (eq-eqb hash hash refl))
        ∙ swap_here (slots_at old hash) place 0 (omega (arith, inside, not_last)) ∙ ap (λ (x : ℕ). Some x) (sym moved_is) in
        let at : get_or after moved 0 ≡ place = ap (λ (l : List ℕ). get_or l moved 0) after_is ∙ get_or-set_same places moved place 0 within in
        subst (λ (n : ℕ). IsAt mid other n moved) (sym at) (subst (λ (h : ℕ). IsAt mid h place moved) (sym same) here)

    took_other : (other one : ℕ) → one ≢ slot → one ≢ moved → IsAt old other (get_or places one 0) one → IsAt mid other (get_or after one 0) one
    took_other other one not_slot not_moved stands =
        let at : get_or after one 0 ≡ get_or places one 0 = ap (λ (l : List ℕ). get_or l one 0) after_is ∙ get_or-set_other places moved one place 0 not_moved in
        subst (λ (n : ℕ). IsAt mid other n one) (sym at) (by (hash == other) refl (took other))
      where
        by : (b : Bool) → (hash == other) ≡ b → slots_at mid other ≡ (if b then swap_remove (slots_at old other) place 0 else slots_at old other) → IsAt mid other (get_or places one 0) one
        by true same is =
            let here : IsAt old other place slot = stands_under other same in
            let last : slice_get (slots_at old other) (length (slots_at old other) - 1) ≡ Some moved =
            subst (λ (h : ℕ). slice_get (slots_at old h) (length (slots_at old h) - 1) ≡ Some moved) (eqb-true hash other same) (last_there moved moved_is) in
            ap (λ (l : List ℕ). slice_get l (get_or places one 0)) is
            ∙ swap_other (slots_at old other) place (get_or places one 0) one 0 (slice_get_within (slots_at old other) place slot here) stands
            (λ e. not_slot (same_Some one slot (sym stands ∙ ap (slice_get (slots_at old other)) e ∙ here)))
            (λ e. not_moved (same_Some one moved (sym stands ∙ ap (slice_get (slots_at old other)) e ∙ last)))
        by false same is = ap (λ (l : List ℕ). slice_get l (get_or places one 0)) is ∙ stands

    pub took_places : (other one : ℕ) → one ≢ slot → IsAt old other (get_or places one 0) one → IsAt mid other (get_or after one 0) one
    took_places other one not_slot stands = by (cases_eq one moved)
      where
        by : (one ≡ moved) ⊎ (one ≡ moved → ⊥) → IsAt mid other (get_or after one 0) one
        by (inl same) =
            subst (λ (n : ℕ). IsAt mid other (get_or after n 0) n) (sym same)
            (took_moved other (λ e. not_slot (same ∙ e)) (subst (λ (n : ℕ). IsAt old other (get_or places n 0) n) same stands))
        by (inr differ) = took_other other one not_slot differ stands

-- ---- a slot that is written for another one

module _ (mid new : Lists) (hash from to place : ℕ) (there : IsAt mid hash place from) (wrote : (other : ℕ) → slots_at new other ≡ (if hash == other then set (slots_at mid other) place to else slots_at mid other)) where
  pub renamed_counts : (other at : ℕ) → count_by (nat_eq at) (slots_at new other) + one_if (hash == other && from == at) ≡ count_by (nat_eq at) (slots_at mid other) + one_if (hash == other && to == at)
  renamed_counts other at = by (hash == other) refl (wrote other)
    where
      by : (b : Bool) → (hash == other) ≡ b → slots_at new other ≡ (if b then set (slots_at mid other) place to else slots_at mid other)
          → count_by (nat_eq at) (slots_at new other) + one_if (b && from == at) ≡ count_by (nat_eq at) (slots_at mid other) + one_if (b && to == at)
      by true same is =
          let here : IsAt mid other place from = subst (λ (h : ℕ). IsAt mid h place from) (eqb-true hash other same) there in
          let own : get_or (slots_at mid other) place 0 ≡ from = get_or_from_slice_get (slots_at mid other) place from 0 here in
          let gone : cond {A = ℕ} (nat_eq at (get_or (slots_at mid other) place 0)) 1 0 ≡ one_if (from == at) = ap (λ (n : ℕ). cond {A = ℕ} (nat_eq at n) 1 0) own ∙ ap (λ (c : Bool). cond {A = ℕ} c 1 0) (nat_eq_equiv.symm at from) in
          let come : cond {A = ℕ} (nat_eq at to) 1 0 ≡ one_if (to == at) = ap (λ (c : Bool). cond {A = ℕ} c 1 0) (nat_eq_equiv.symm at to) in
          omega (arith, ap (count_by (nat_eq at)) is, sum_by-set (λ (y : ℕ). cond (nat_eq at y) 1 0) (slots_at mid other) place to 0 (slice_get_within (slots_at mid other) place from here), gone, come)
      by false same is = omega (arith, ap (count_by (nat_eq at)) is)

  pub renamed_places : (other at one : ℕ) → one ≢ from → IsAt mid other at one → IsAt new other at one
  renamed_places other at one not_from stands = by (hash == other) refl (wrote other)
    where
      by : (b : Bool) → (hash == other) ≡ b → slots_at new other ≡ (if b then set (slots_at mid other) place to else slots_at mid other) → IsAt new other at one
      by true same is =
          let here : IsAt mid other place from = subst (λ (h : ℕ). IsAt mid h place from) (eqb-true hash other same) there in
          ap (λ (l : List ℕ). slice_get l at) is ∙ set_other (slots_at mid other) place at one to stands (λ e. not_from (same_Some one from (sym stands ∙ ap (slice_get (slots_at mid other)) e ∙ here)))
      by false same is = ap (λ (l : List ℕ). slice_get l at) is ∙ stands

  pub renamed_there : IsAt new hash place to
  renamed_there =
      ap (λ (l : List ℕ). slice_get l place) (wrote hash ∙ ap (λ (b : Bool). if b then set (slots_at mid hash) place to else slots_at mid hash) (eq-eqb hash hash refl))
      ∙ set_here (slots_at mid hash) place to (slice_get_within (slots_at mid hash) place from there)

-- ---- a slot that is put behind the others of its hash

module _ (old new : Lists) (hash slot : ℕ) (put : (other : ℕ) → slots_at new other ≡ (if hash == other then slots_at old other ++ slot ∷ [] else slots_at old other)) where
  put_places : (other at one : ℕ) → IsAt old other at one → IsAt new other at one
  put_places other at one stands = by (hash == other) (put other)
    where
      by : (b : Bool) → slots_at new other ≡ (if b then slots_at old other ++ slot ∷ [] else slots_at old other) → IsAt new other at one
      by true is = ap (λ (l : List ℕ). slice_get l at) is ∙ push_front (slots_at old other) at one slot stands
      by false is = ap (λ (l : List ℕ). slice_get l at) is ∙ stands

  put_there : IsAt new hash (length (slots_at old hash)) slot
  put_there =
      ap (λ (l : List ℕ). slice_get l (length (slots_at old hash))) (put hash ∙ ap (λ (b : Bool). if b then slots_at old hash ++ slot ∷ [] else slots_at old hash) (eq-eqb hash hash refl))
      ∙ push_end (slots_at old hash) slot

-- ---- all slots

pub placed_push : (marks : List Mark) (mark : Mark) (slot place : ℕ) (old new : Lists) (places : List ℕ) → slot ≡ length marks → place ≡ length (slots_at old mark.hash)
    → ((other : ℕ) → slots_at new other ≡ (if mark.hash == other then slots_at old other ++ slot ∷ [] else slots_at old other)) → ArePlaced marks old places → ArePlaced (marks ++ mark ∷ []) new (places ++ place ∷ [])
placed_push marks mark slot place old new places last place_is put placed = record {
  sizes = length-append places (place ∷ []) ∙ ap (λ (n : ℕ). n + 1) placed.sizes ∙ sym (length-append marks (mark ∷ []));
  each = λ one d within. by one d within (cases_lt one (length marks));
}
  where
    by : (one : ℕ) (d : Mark) → one < length (marks ++ mark ∷ []) → (one < length marks) ⊎ (length marks ≤ one) → IsAt new (get_or (marks ++ mark ∷ []) one d).hash (get_or (places ++ place ∷ []) one 0) one
    by one d within (inl low) =
        subst (λ (m : Mark). IsAt new m.hash (get_or (places ++ place ∷ []) one 0) one) (sym (get_or_append_left marks (mark ∷ []) d one low))
        (subst (λ (p : ℕ). IsAt new (get_or marks one d).hash p one) (sym (get_or_append_left places (place ∷ []) 0 one (omega (arith, low, placed.sizes))))
        (put_places old new mark.hash slot put (get_or marks one d).hash (get_or places one 0) one (placed.each one d low)))
    by one d within (inr past) =
        let at : one ≡ length marks = omega (arith, past, within, length-append marks (mark ∷ [])) in
        subst (λ (m : Mark). IsAt new m.hash (get_or (places ++ place ∷ []) one 0) one) (sym (ap (λ (n : ℕ). get_or (marks ++ mark ∷ []) n d) at ∙ get_or-append_seam marks mark [] d))
        (subst (λ (p : ℕ). IsAt new mark.hash p one) (sym (ap (λ (n : ℕ). get_or (places ++ place ∷ []) n 0) (at ∙ sym placed.sizes) ∙ get_or-append_seam places place [] 0 ∙ place_is))
        (subst (λ (s : ℕ). IsAt new mark.hash (length (slots_at old mark.hash)) s) (last ∙ sym at) (put_there old new mark.hash slot put)))

-- the last row stands at its place when another one was taken out
pub last_at : (marks : List Mark) (slot end hash place : ℕ) (d : Mark) (places after : List ℕ) (old mid : Lists) → slot < length marks → end ≡ length marks - 1 → hash ≡ (get_or marks end d).hash → place ≡ get_or after end place → length after ≡ length places
    → ArePlaced marks old places → ((other one : ℕ) → one ≢ slot → IsAt old other (get_or places one 0) one → IsAt mid other (get_or after one 0) one) → (end == slot) ≡ false → IsAt mid hash place end
last_at marks slot end hash place d places after old mid within end_is hash_is place_is sizes placed step differs =
    let inside : end < length marks = omega (arith, within, end_is) in
    let here : place ≡ get_or after end 0 = place_is ∙ get_or_default after end place 0 (omega (arith, inside, sizes, placed.sizes)) in
    subst (λ (p : ℕ). IsAt mid hash p end) (sym here)
    (subst (λ (h : ℕ). IsAt mid h (get_or after end 0) end) (sym hash_is) (step (get_or marks end d).hash end (λ e. true≢false (sym (eq-eqb end slot e) ∙ differs)) (placed.each end d inside)))

pub placed_left : (marks : List Mark) (slot end hash place taken : ℕ) (gone d : Mark) (places after left : List ℕ) (old mid new : Lists) → slot < length marks → end ≡ length marks - 1 → hash ≡ (get_or marks end d).hash → place ≡ get_or after end place
    → length after ≡ length places → left ≡ swap_remove after slot taken → ArePlaced marks old places → ((other one : ℕ) → one ≢ slot → IsAt old other (get_or places one 0) one → IsAt mid other (get_or after one 0) one)
    → ((other at one : ℕ) → one ≢ end → IsAt mid other at one → IsAt new other at one) → ((end == slot) ≡ false → IsAt new hash place slot) → ArePlaced (swap_remove marks slot gone) new left
placed_left marks slot end hash place taken gone d places after left old mid new within end_is hash_is place_is sizes left_is placed step renamed there = record {
  sizes = ap (λ (l : List ℕ). length l) left_is ∙ swap_length after slot taken (omega (arith, within, sizes, placed.sizes)) ∙ ap (λ (n : ℕ). n - 1) (sizes ∙ placed.sizes) ∙ sym (swap_length marks slot gone within);
  each = λ one e low. by one e (omega (arith, low, swap_length marks slot gone within)) (cases_eq one slot);
}
  where
    long : length after ≡ length marks
    long = sizes ∙ placed.sizes

    by : (one : ℕ) (e : Mark) → one < length marks - 1 → (one ≡ slot) ⊎ (one ≡ slot → ⊥) → IsAt new (get_or (swap_remove marks slot gone) one e).hash (get_or left one 0) one
    by one e low (inl same) =
        let low_slot : slot < length marks - 1 = omega (arith, low, same) in
        let mark_is : (get_or (swap_remove marks slot gone) one e).hash ≡ hash =
        ap (λ (m : Mark). m.hash) (ap (λ (n : ℕ). get_or (swap_remove marks slot gone) n e) same ∙ came_to marks slot gone e low_slot ∙ get_or_default marks (length marks - 1) gone d (omega (arith, within)))
        ∙ ap (λ (n : ℕ). (get_or marks n d).hash) (sym end_is) ∙ sym hash_is in
        let here : get_or left one 0 ≡ place =
        ap (λ (l : List ℕ). get_or l one 0) left_is ∙ ap (λ (n : ℕ). get_or (swap_remove after slot taken) n 0) same ∙ came_to after slot taken 0 (omega (arith, low_slot, long))
        ∙ get_or_default after (length after - 1) taken place (omega (arith, within, long)) ∙ ap (λ (n : ℕ). get_or after n place) (ap (λ (n : ℕ). n - 1) long ∙ sym end_is) ∙ sym place_is in
        subst (λ (h : ℕ). IsAt new h (get_or left one 0) one) (sym mark_is)
        (subst (λ (p : ℕ). IsAt new hash p one) (sym here) (subst (λ (s : ℕ). IsAt new hash place s) (sym same) (there (ne_eqb end slot (λ e. absurd (omega (arith, e, end_is, low_slot)))))))
    by one e low (inr differ) =
        let mark_is : (get_or (swap_remove marks slot gone) one e).hash ≡ (get_or marks one e).hash = ap (λ (m : Mark). m.hash) (kept_at marks slot one gone e low differ) in
        let here : get_or left one 0 ≡ get_or after one 0 = ap (λ (l : List ℕ). get_or l one 0) left_is ∙ kept_at after slot one taken 0 (omega (arith, low, long)) differ in
        subst (λ (h : ℕ). IsAt new h (get_or left one 0) one) (sym mark_is)
        (subst (λ (p : ℕ). IsAt new (get_or marks one e).hash p one) (sym here)
        (renamed (get_or marks one e).hash (get_or after one 0) one (λ is. absurd (omega (arith, is, end_is, low))) (step (get_or marks one e).hash one differ (placed.each one e (omega (arith, low))))))

pub placed_set : (marks : List Mark) (slot place : ℕ) (mark : Mark) (places after final : List ℕ) (old mid new : Lists) → slot < length marks → length after ≡ length places → final ≡ set after slot place → place ≡ length (slots_at mid mark.hash)
    → ((other : ℕ) → slots_at new other ≡ (if mark.hash == other then slots_at mid other ++ slot ∷ [] else slots_at mid other)) → ArePlaced marks old places
    → ((other one : ℕ) → one ≢ slot → IsAt old other (get_or places one 0) one → IsAt mid other (get_or after one 0) one) → ArePlaced (set marks slot mark) new final
placed_set marks slot place mark places after final old mid new within sizes final_is place_is put placed step = record {
  sizes = ap (λ (l : List ℕ). length l) final_is ∙ length-set after slot place ∙ long ∙ sym (length-set marks slot mark);
  each = λ one d low. by one d (omega (arith, low, length-set marks slot mark)) (cases_eq one slot);
}
  where
    long : length after ≡ length marks
    long = sizes ∙ placed.sizes

    by : (one : ℕ) (d : Mark) → one < length marks → (one ≡ slot) ⊎ (one ≡ slot → ⊥) → IsAt new (get_or (set marks slot mark) one d).hash (get_or final one 0) one
    by one d low (inl same) =
        let mark_is : get_or (set marks slot mark) one d ≡ mark = ap (λ (n : ℕ). get_or (set marks slot mark) n d) same ∙ get_or-set_same marks slot mark d within in
        let here : get_or final one 0 ≡ length (slots_at mid mark.hash) =
        ap (λ (l : List ℕ). get_or l one 0) final_is ∙ ap (λ (n : ℕ). get_or (set after slot place) n 0) same ∙ get_or-set_same after slot place 0 (omega (arith, within, long)) ∙ place_is in
        subst (λ (m : Mark). IsAt new m.hash (get_or final one 0) one) (sym mark_is)
        (subst (λ (p : ℕ). IsAt new mark.hash p one) (sym here) (subst (λ (s : ℕ). IsAt new mark.hash (length (slots_at mid mark.hash)) s) (sym same) (put_there mid new mark.hash slot put)))
    by one d low (inr differ) =
        let mark_is : get_or (set marks slot mark) one d ≡ get_or marks one d = get_or-set_other marks slot one mark d differ in
        let here : get_or final one 0 ≡ get_or after one 0 = ap (λ (l : List ℕ). get_or l one 0) final_is ∙ get_or-set_other after slot one place 0 differ in
        subst (λ (m : Mark). IsAt new m.hash (get_or final one 0) one) (sym mark_is)
        (subst (λ (p : ℕ). IsAt new (get_or marks one d).hash p one) (sym here)
        (put_places mid new mark.hash slot put (get_or marks one d).hash (get_or after one 0) one (step (get_or marks one d).hash one differ (placed.each one d low))))
