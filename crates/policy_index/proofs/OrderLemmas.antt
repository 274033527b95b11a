-- Slots that become the rising places of their rows.
use Rattle.std.proofs.Common.{◌≡◌, ℕ, zero, suc, ◌+◌, ◌<◌, ◌≤◌, ◌&&◌, ◌||◌, Bool, true, false, cond, true≢false, List, [], ◌∷◌, ◌++◌, length, get_or, set, take, drop, slice_get, All, Option, Some, None, refl, sym, ap, subst, ◌∙◌, arith, add-one, append-nil}
use Rattle.std.specs.Prelude.{AllPairs, filter, nat_eq}
use Rattle.std.specs.List.{AllByRecursion, Contains, IsDistinct, dedup, list_any}
use Rattle.std.specs.List.Sorted.{IsPermutation, IsSorted}
use Rattle.std.specs.Ordering.{nat_cmp}
use Rattle.std.specs.Option.{option_map_or}
use Rattle.std.proofs.lemmas.Bool.{eq-eqb, eqb-true, ne_eqb}
use Rattle.std.proofs.lemmas.Cmp.{nat_eq_equiv}
use Rattle.std.proofs.Math.Seq.{take-suc-set}
use Rattle.std.proofs.lemmas.List.{drop-drop, drop-set-lt, length-set, take_all}
use Rattle.std.proofs.lemmas.List.Elements.{All-cons, All-nil, filter_more}
use Rattle.std.proofs.lemmas.List.Filters.{All-dedup}
use Rattle.std.proofs.lemmas.List.Kept.{AllPairs-filter, AllPairs-from_increasing, Contains-dedup_nat}
use Rattle.std.proofs.lemmas.List.Sorted.{All-permutation, Contains-permutation, IsPermutation-refl}
use Rattle.std.proofs.lemmas.Map.Keys.{IsStrictlyIncreasing-dedup}
use Rattle.std.proofs.lemmas.Option.{get_or_from_slice_get, slice_get_within}
use Rattle.std.specs.Str.{bytes_eq}
use Rattle.std.proofs.lemmas.Map.Views.{Contains-from_any, list_any-from_Contains}
use Rattle.policy_table.specs.Slots.{AreSlots}
use Rattle.policy_table.specs.Tables.{Fields, same, stands}
use Rattle.policy_table.proofs.CallerLemmas.{same-Decides}
use Rattle.policy_index.specs.Found.{AddsSlots, ArePlacesOf, FindRows}
use Rattle.policy_index.specs.Helps.FoundSlots.{ArePlacesOfEach, IsPlaceOf}
use Rattle.policy_index.specs.Places.{has_text, has_text_at, places_of}
use Rattle.policy_index.proofs.LawLemmas.{exact_places, rising_places}

-- ---- places beside slots

-- each place is one of rows
places_within : (by_slot rows : List Fields) (from places : List ℕ) → ArePlacesOfEach by_slot rows from places → All (λ (place : ℕ). place < length rows) places
places_within by_slot rows [] [] are = All-nil (λ (place : ℕ). place < length rows)
places_within by_slot rows [] (p ∷ ps) are = absurd are
places_within by_slot rows (s ∷ ss) [] are = absurd are
places_within by_slot rows (s ∷ ss) (p ∷ ps) are = All-cons (λ (place : ℕ). place < length rows) p ps are.0.within (places_within by_slot rows ss ps are.1)

-- the place of a slot that is among them
place_beside : (by_slot rows : List Fields) (from places : List ℕ) (slot : ℕ) → ArePlacesOfEach by_slot rows from places → list_any (nat_eq slot) from ≡ true → (place : ℕ) × (list_any (nat_eq place) places ≡ true) × IsPlaceOf by_slot rows slot place
place_beside by_slot rows [] places slot are any = absurd (true≢false (sym any))
place_beside by_slot rows (s ∷ ss) [] slot are any = absurd are
place_beside by_slot rows (s ∷ ss) (p ∷ ps) slot are any = by (nat_eq slot s) refl any (λ later. place_beside by_slot rows ss ps slot are.1 later)
  where
    by : (b : Bool) → nat_eq slot s ≡ b → (b || list_any (nat_eq slot) ss) ≡ true → (list_any (nat_eq slot) ss ≡ true → (place : ℕ) × (list_any (nat_eq place) ps ≡ true) × IsPlaceOf by_slot rows slot place)
        → (place : ℕ) × (list_any (nat_eq place) (p ∷ ps) ≡ true) × IsPlaceOf by_slot rows slot place
    by true is any rest = (p, ap (λ (b : Bool). b || list_any (nat_eq p) ps) (eq-eqb p p refl), subst (λ (n : ℕ). IsPlaceOf by_slot rows n p) (sym (eqb-true slot s is)) are.0)
    by false is any rest =
        let found = rest any in
        (found.0, behind found.0 (nat_eq found.0 p) found.1, found.2)
      where
        behind : (n : ℕ) (b : Bool) → list_any (nat_eq n) ps ≡ true → (b || list_any (nat_eq n) ps) ≡ true
        behind n true is = refl
        behind n false is = is

-- a rule that is apart from all stands nowhere among them
apart_at : (r : Fields) (l : List Fields) (at : ℕ) (rule : Fields) → AllByRecursion (λ (q : Fields). same r q ≡ false) l → r ≡ rule → slice_get l at ≡ Some rule → ⊥
apart_at r [] at rule all is there = absurd cc
apart_at r (q ∷ qs) zero rule all is there = let equal : q ≡ rule = cc in true≢false (sym ((same-Decides r q).1 (is ∙ sym equal)) ∙ all.0)
apart_at r (q ∷ qs) (suc at) rule all is there = apart_at r qs at rule all.1 is there

-- a rule stands at one place of distinct rules
one_place : (rows : List Fields) (one other : ℕ) (rule : Fields) → IsDistinct same rows → slice_get rows one ≡ Some rule → slice_get rows other ≡ Some rule → one ≡ other
unfolding IsDistinct
one_place [] one other rule once here there = absurd cc
one_place (r ∷ rs) zero zero rule once here there = refl
one_place (r ∷ rs) zero (suc other) rule once here there = let first : r ≡ rule = cc in absurd (apart_at r rs other rule once.0 first there)
one_place (r ∷ rs) (suc one) zero rule once here there = let first : r ≡ rule = cc in absurd (apart_at r rs one rule once.0 first here)
one_place (r ∷ rs) (suc one) (suc other) rule once here there = ap suc (one_place rs one other rule once.1 here there)

-- ---- sorted, each once

pub ordered_places : (by_slot rows : List Fields) (from mid sorted new : List ℕ) → IsDistinct same rows → ArePlacesOfEach by_slot rows from mid → IsPermutation mid sorted → IsSorted nat_cmp sorted → new ≡ dedup nat_eq sorted → ArePlacesOf by_slot rows from new
ordered_places by_slot rows from mid sorted new once are moved rises is = subst (ArePlacesOf by_slot rows from) (sym is) (record {
  rising = AllPairs-from_increasing (dedup nat_eq sorted) (IsStrictlyIncreasing-dedup sorted rises);
  within = All-dedup nat_eq (λ (place : ℕ). place < length rows) sorted (All-permutation (λ (place : ℕ). place < length rows) mid sorted moved (places_within by_slot rows from mid are));
  each = λ slot place rule any there here.
      let found = place_beside by_slot rows from mid slot are any in
      let equal : found.0 ≡ place = one_place rows found.0 place rule once (found.2.same ∙ there) here in
      let stands_there : Contains (dedup nat_eq sorted) found.0 = Contains-dedup_nat sorted found.0 (Contains-permutation mid sorted found.0 moved (Contains-from_any (λ x y e. eqb-true x y e) found.0 mid found.1)) in
      subst (λ (n : ℕ). list_any (nat_eq n) (dedup nat_eq sorted) ≡ true) equal (list_any-from_Contains nat_eq_equiv found.0 (dedup nat_eq sorted) stands_there);
})

-- less than two places are in order as they are
pub few_places : (by_slot rows : List Fields) (from new : List ℕ) → IsDistinct same rows → ArePlacesOfEach by_slot rows from new → length new < 2 → ArePlacesOf by_slot rows from new
few_places by_slot rows from new once are few = ordered_places by_slot rows from new new new once are (IsPermutation-refl new) (λ k d low high. absurd (omega (arith, few))) (few_differ new few)
  where
    few_differ : (xs : List ℕ) → length xs < 2 → xs ≡ dedup nat_eq xs
    few_differ [] few = refl
    few_differ (x ∷ []) few = refl
    few_differ (x ∷ y ∷ xs) few = absurd (omega (arith, few))

-- ---- the rows that are found

pub finds_rows : (test : Fields → Bool) (by_slot rows : List Fields) (found places : List ℕ) → AreSlots by_slot rows → AddsSlots test by_slot [] found → ArePlacesOf by_slot rows found places → FindRows test rows places
finds_rows test by_slot rows found places slots adds are = record {
  rising = are.rising;
  within = are.within;
  each = λ place passes. by place (slice_get rows place) refl passes;
}
  where
    standing : (l : List Fields) (at : ℕ) (rule : Fields) → slice_get l at ≡ Some rule → stands rule l ≡ true
    standing [] at rule there = absurd cc
    standing (r ∷ rs) zero rule there = let equal : r ≡ rule = cc in ap (λ (b : Bool). b || stands rule rs) ((same-Decides rule r).1 (sym equal))
    standing (r ∷ rs) (suc at) rule there = later (same rule r) (standing rs at rule there)
      where
        later : (b : Bool) → stands rule rs ≡ true → (b || stands rule rs) ≡ true
        later true is = refl
        later false is = is

    -- a rule that stands has a slot
    slot_with : (l : List Fields) (rule : Fields) → stands rule l ≡ true → (slot : ℕ) × (slice_get l slot ≡ Some rule)
    slot_with [] rule any = absurd (true≢false (sym any))
    slot_with (r ∷ rs) rule any = at (same rule r) refl any (λ later. slot_with rs rule later)
      where
        at : (b : Bool) → same rule r ≡ b → (b || stands rule rs) ≡ true → (stands rule rs ≡ true → (slot : ℕ) × (slice_get rs slot ≡ Some rule)) → (slot : ℕ) × (slice_get (r ∷ rs) slot ≡ Some rule)
        at true is any rest = (0, ap (λ (q : Fields). Some q) (sym ((same-Decides rule r).0 is)))
        at false is any rest = let found = rest any in (suc found.0, found.1)

    by : (place : ℕ) (o : Option Fields) → slice_get rows place ≡ o → option_map_or test o false ≡ true → list_any (nat_eq place) places ≡ true
    by place None there passes = absurd (true≢false (sym passes))
    by place (Some rule) there passes =
        let slot = slot_with by_slot rule (slots.all rule ∙ standing rows place rule there) in
        let any : list_any (nat_eq slot.0) found ≡ true = ap (list_any (nat_eq slot.0)) adds.behind ∙ adds.each slot.0 (ap (λ (o : Option Fields). option_map_or test o false) slot.1 ∙ passes) in
        are.each slot.0 place rule any slot.1 there

-- ---- exactly the rows with a text

-- rising lists with the same members are the same
pub same_rising : (xs ys : List ℕ) → AllPairs (λ (m n : ℕ). m < n) xs → AllPairs (λ (m n : ℕ). m < n) ys → ((n : ℕ) → list_any (nat_eq n) xs ≡ list_any (nat_eq n) ys) → xs ≡ ys
same_rising [] [] xs_rise ys_rise members = refl
same_rising [] (y ∷ ys) xs_rise ys_rise members = absurd (true≢false (sym (ap (λ (b : Bool). b || list_any (nat_eq y) ys) (eq-eqb y y refl)) ∙ sym (members y)))
same_rising (x ∷ xs) [] xs_rise ys_rise members = absurd (true≢false (sym (ap (λ (b : Bool). b || list_any (nat_eq x) xs) (eq-eqb x x refl)) ∙ members x))
same_rising (x ∷ xs) (y ∷ ys) xs_rise ys_rise members =
    let first : x ≡ y = least in
    λ j. first j ∷ same_rising xs ys (tail x xs xs_rise) (tail y ys ys_rise) behind j
  where
    tail : (z : ℕ) (zs : List ℕ) → AllPairs (λ (m n : ℕ). m < n) (z ∷ zs) → AllPairs (λ (m n : ℕ). m < n) zs
    tail z zs rise = λ i j d less within. rise (suc i) (suc j) d (omega (arith, less)) (omega (arith, within))

    -- what stands in a rising list is its first, or more
    low : (z n : ℕ) (zs : List ℕ) → AllPairs (λ (m k : ℕ). m < k) (z ∷ zs) → list_any (nat_eq n) zs ≡ true → z < n
    low z n zs rise any = subst (λ (k : ℕ). z < k) here (rise 0 (suc there.0) n (omega arith) (omega (arith, there.1)))
      where
        there : Contains zs n
        there = Contains-from_any (λ a b e. eqb-true a b e) n zs any

        here : get_or (z ∷ zs) (suc there.0) n ≡ n
        here = there.2

    is_first : (z n : ℕ) (zs : List ℕ) → AllPairs (λ (m k : ℕ). m < k) (z ∷ zs) → list_any (nat_eq n) (z ∷ zs) ≡ true → z ≤ n
    is_first z n zs rise any = by (nat_eq n z) refl any
      where
        by : (b : Bool) → nat_eq n z ≡ b → (b || list_any (nat_eq n) zs) ≡ true → z ≤ n
        by true is any = omega (arith, eqb-true n z is)
        by false is any = omega (arith, low z n zs rise any)

    own : (z : ℕ) (zs : List ℕ) → list_any (nat_eq z) (z ∷ zs) ≡ true
    own z zs = ap (λ (b : Bool). b || list_any (nat_eq z) zs) (eq-eqb z z refl)

    least : x ≡ y
    least = omega (arith, is_first x y xs xs_rise (members y ∙ own y ys), is_first y x ys ys_rise (sym (members x) ∙ own x xs))

    behind : (n : ℕ) → list_any (nat_eq n) xs ≡ list_any (nat_eq n) ys
    behind n = by (list_any (nat_eq n) xs) refl (list_any (nat_eq n) ys) refl
      where
        both : (z : ℕ) (zs : List ℕ) → AllPairs (λ (m k : ℕ). m < k) (z ∷ zs) → list_any (nat_eq n) zs ≡ true → nat_eq n z ≡ false
        both z zs rise any = ne_eqb n z (λ e. absurd (omega (arith, low z n zs rise any, e)))

        by : (a : Bool) → list_any (nat_eq n) xs ≡ a → (b : Bool) → list_any (nat_eq n) ys ≡ b → list_any (nat_eq n) xs ≡ list_any (nat_eq n) ys
        by true a-is true b-is = a-is ∙ sym b-is
        by false a-is false b-is = a-is ∙ sym b-is
        by true a-is false b-is =
            let x_not = both x xs xs_rise a-is in
            let y_not : nat_eq n y ≡ false = subst (λ (z : ℕ). nat_eq n z ≡ false) least x_not in
            absurd (true≢false (sym a-is ∙ sym (ap (λ (b : Bool). b || list_any (nat_eq n) xs) x_not) ∙ members n ∙ ap (λ (b : Bool). b || list_any (nat_eq n) ys) y_not ∙ b-is))
        by false a-is true b-is =
            let y_not = both y ys ys_rise b-is in
            let x_not : nat_eq n x ≡ false = subst (λ (z : ℕ). nat_eq n z ≡ false) (sym least) y_not in
            absurd (true≢false (sym b-is ∙ sym (ap (λ (b : Bool). b || list_any (nat_eq n) ys) y_not) ∙ sym (members n) ∙ ap (λ (b : Bool). b || list_any (nat_eq n) xs) x_not ∙ a-is))

-- whether a number stands in a filtered list
any_filter : (test : ℕ → Bool) (n : ℕ) (xs : List ℕ) → list_any (nat_eq n) (filter test xs) ≡ (list_any (nat_eq n) xs && test n)
any_filter test n [] = refl
any_filter test n (x ∷ xs) = by (test x) refl (nat_eq n x) refl (any_filter test n xs)
  where
    by : (t : Bool) → test x ≡ t → (e : Bool) → nat_eq n x ≡ e → list_any (nat_eq n) (filter test xs) ≡ (list_any (nat_eq n) xs && test n) → list_any (nat_eq n) (cond t (x ∷ filter test xs) (filter test xs)) ≡ ((e || list_any (nat_eq n) xs) && test n)
    by true t-is true e-is rest = ap (λ (b : Bool). b || list_any (nat_eq n) (filter test xs)) e-is ∙ sym (ap test (eqb-true n x e-is) ∙ t-is)
    by true t-is false e-is rest = ap (λ (b : Bool). b || list_any (nat_eq n) (filter test xs)) e-is ∙ rest
    by false t-is true e-is rest = rest ∙ none (list_any (nat_eq n) xs) (ap test (eqb-true n x e-is) ∙ t-is)
      where
        none : {t : Bool} (a : Bool) → t ≡ false → (a && t) ≡ t
        none true is = refl
        none false is = sym is
    by false t-is false e-is rest = rest

-- the places of the rows with a text, of places that hold all of them
pub exact_rows : (column : ℕ) (text : List ℕ) (rows : List Fields) (places : List ℕ) → AllPairs (λ (m n : ℕ). m < n) places → ((place : ℕ) → has_text_at column text rows place ≡ true → list_any (nat_eq place) places ≡ true)
    → filter (has_text_at column text rows) places ≡ places_of column text rows
exact_rows column text rows places rising all =
    same_rising (filter (has_text_at column text rows) places) (places_of column text rows) (AllPairs-filter (λ (m n : ℕ). m < n) (has_text_at column text rows) places rising) (rising_places 0 column text rows)
    (λ n. any_filter (has_text_at column text rows) n places ∙ by n (has_text_at column text rows n) refl ∙ sym (exact_places 0 column text rows n n (omega arith)))
  where
    by : (n : ℕ) (b : Bool) → has_text_at column text rows n ≡ b → (list_any (nat_eq n) places && b) ≡ b
    by n true is = ap (λ (a : Bool). a && true) (all n is)
    by n false is = none (list_any (nat_eq n) places)
      where
        none : (a : Bool) → (a && false) ≡ false
        none true = refl
        none false = refl

-- ---- slots that become places one after the other

nothing_left : (n : ℕ) → drop {A = ℕ} n [] ≡ []
nothing_left zero = refl
nothing_left (suc n) = refl

-- the next slot is the one that was there
next_slot : (old now : List ℕ) (at d : ℕ) → drop at now ≡ drop at old → at < length now → (get_or now at d ≡ get_or old at d) × (at < length old)
next_slot [] [] at d left within = absurd (omega (arith, within))
next_slot [] (n ∷ ns) zero d left within = absurd cc
next_slot [] (n ∷ ns) (suc at) d left within = let rest = next_slot [] ns at d (left ∙ sym (nothing_left at)) (omega (arith, within)) in absurd (omega (arith, rest.1))
next_slot (o ∷ os) [] at d left within = absurd (omega (arith, within))
next_slot (o ∷ os) (n ∷ ns) zero d left within = (cc, omega arith)
next_slot (o ∷ os) (n ∷ ns) (suc at) d left within = let rest = next_slot os ns at d left (omega (arith, within)) in (rest.0, omega (arith, rest.1))

placed_next : (by_slot rows : List Fields) (old now : List ℕ) (at place d : ℕ) → at < length now → IsPlaceOf by_slot rows (get_or now at d) place → ArePlacesOfEach by_slot rows (take at old) (take at now) → drop at now ≡ drop at old
    → ArePlacesOfEach by_slot rows (take (suc at) old) (take (suc at) (set now at place)) × (drop (suc at) (set now at place) ≡ drop (suc at) old)
placed_next by_slot rows [] [] at place d within is are left = absurd (omega (arith, within))
placed_next by_slot rows [] (n ∷ ns) zero place d within is are left = absurd cc
placed_next by_slot rows [] (n ∷ ns) (suc at) place d within is are left = absurd are
placed_next by_slot rows (o ∷ os) [] at place d within is are left = absurd (omega (arith, within))
placed_next by_slot rows (o ∷ os) (n ∷ ns) zero place d within is are left =
    let first : n ≡ o = cc in
    let rest : ns ≡ os = cc in
    ((subst (λ (s : ℕ). IsPlaceOf by_slot rows s place) first is, tt), rest)
placed_next by_slot rows (o ∷ os) (n ∷ ns) (suc at) place d within is are left =
    let later = placed_next by_slot rows os ns at place d (omega (arith, within)) is are.1 left in
    ((are.0, later.0), later.1)

-- one more place is put in
pub placed_more : (by_slot rows : List Fields) (old now : List ℕ) (at place d : ℕ) → at < length now → IsPlaceOf by_slot rows (get_or now at d) place → ArePlacesOfEach by_slot rows (take at old) (take at now) → drop at now ≡ drop at old
    → ArePlacesOfEach by_slot rows (take (at + 1) old) (take (at + 1) (set now at place)) × (drop (at + 1) (set now at place) ≡ drop (at + 1) old)
placed_more by_slot rows old now at place d within is are left =
    subst (λ (n : ℕ). ArePlacesOfEach by_slot rows (take n old) (take n (set now at place)) × (drop n (set now at place) ≡ drop n old)) (sym (add-one at))
    (placed_next by_slot rows old now at place d within is are left)

-- all are
pub placed_all : (by_slot rows : List Fields) (old now : List ℕ) (at : ℕ) → length now ≤ at → drop at now ≡ drop at old → ArePlacesOfEach by_slot rows (take at old) (take at now) → ArePlacesOfEach by_slot rows old now
placed_all by_slot rows [] [] at few same are = tt
placed_all by_slot rows [] (n ∷ ns) zero few same are = absurd (omega (arith, few))
placed_all by_slot rows [] (n ∷ ns) (suc at) few same are = absurd are
placed_all by_slot rows (o ∷ os) [] zero few same are = absurd cc
placed_all by_slot rows (o ∷ os) [] (suc at) few same are = absurd are
placed_all by_slot rows (o ∷ os) (n ∷ ns) zero few same are = absurd (omega (arith, few))
placed_all by_slot rows (o ∷ os) (n ∷ ns) (suc at) few same are = (are.0, placed_all by_slot rows os ns at (omega (arith, few)) same are.1)

-- the slot at a place is one of those
pub slot_below : (by_slot : List Fields) (old now : List ℕ) (at d : ℕ) → All (λ (slot : ℕ). slot < length by_slot) old → at < length now → drop at now ≡ drop at old → get_or now at d < length by_slot
slot_below by_slot old now at d all within same =
    let next = next_slot old now at d same within in
    subst (λ (n : ℕ). n < length by_slot) (sym next.0) (all at d next.1)

-- ---- places that are kept in front of those that are left

-- one more is filtered
more_filtered : (test : ℕ → Bool) (old : List ℕ) (at place : ℕ) → at < length old → get_or old at place ≡ place → filter test (take (at + 1) old) ≡ filter test (take at old) ++ cond (test place) (place ∷ []) []
more_filtered test old at place within here = filter_more test old at place within ∙ ap (λ (n : ℕ). filter test (take at old) ++ cond (test n) (n ∷ []) []) here

-- so many places are kept of those before one, the others are as they were
pub record Keeps (test : ℕ → Bool) (old now : List ℕ) (kept at : ℕ) : Type 0 where
  pub front : take kept now ≡ filter test (take at old)
  pub left : drop at now ≡ drop at old
  pub few : kept ≤ at
  pub same : length now ≡ length old

pub keeps_none : (test : ℕ → Bool) (old : List ℕ) → Keeps test old old 0 0
keeps_none test old = record { front = refl; left = refl; few = omega arith; same = refl }

-- one that fails is passed over
pub keeps_not : (test : ℕ → Bool) (old now : List ℕ) (kept at place : ℕ) → Keeps test old now kept at → at < length now → get_or now at place ≡ place → test place ≡ false → Keeps test old now kept (at + 1)
keeps_not test old now kept at place keeps within here fails = record {
  front = keeps.front ∙ sym (more_filtered test old at place (next_slot old now at place keeps.left within).1 (sym (next_slot old now at place keeps.left within).0 ∙ here) ∙ ap (λ (b : Bool). filter test (take at old) ++ cond b (place ∷ []) []) fails ∙ append-nil (filter test (take at old)));
  left = drop_same old now at keeps.left;
  few = omega (arith, keeps.few);
  same = keeps.same;
}
  where
    drop_same : (xs ys : List ℕ) (n : ℕ) → drop n ys ≡ drop n xs → drop (n + 1) ys ≡ drop (n + 1) xs
    drop_same xs ys n same = sym (drop-drop 1 n ys) ∙ ap (drop 1) same ∙ drop-drop 1 n xs

-- one that passes is put behind those that are kept
pub keeps_one : (test : ℕ → Bool) (old now : List ℕ) (kept at place : ℕ) → Keeps test old now kept at → at < length now → get_or now at place ≡ place → test place ≡ true → Keeps test old (set now kept place) (kept + 1) (at + 1)
keeps_one test old now kept at place keeps within here passes = record {
  front =
      ap (λ (n : ℕ). take n (set now kept place)) (add-one kept) ∙ take-suc-set now kept place (omega (arith, keeps.few, within))
      ∙ ap (λ (l : List ℕ). l ++ place ∷ []) keeps.front
      ∙ sym (more_filtered test old at place (next_slot old now at place keeps.left within).1 (sym (next_slot old now at place keeps.left within).0 ∙ here) ∙ ap (λ (b : Bool). filter test (take at old) ++ cond b (place ∷ []) []) passes);
  left = drop-set-lt (at + 1) now kept place (omega (arith, keeps.few)) ∙ drop_same old now at keeps.left;
  few = omega (arith, keeps.few);
  same = length-set now kept place ∙ keeps.same;
}
  where
    drop_same : (xs ys : List ℕ) (n : ℕ) → drop n ys ≡ drop n xs → drop (n + 1) ys ≡ drop (n + 1) xs
    drop_same xs ys n same = sym (drop-drop 1 n ys) ∙ ap (drop 1) same ∙ drop-drop 1 n xs

-- all are looked at
pub keeps_all : (test : ℕ → Bool) (old now : List ℕ) (kept at : ℕ) → Keeps test old now kept at → length now ≤ at → take kept now ≡ filter test old
keeps_all test old now kept at keeps few = keeps.front ∙ ap (filter test) (take_all at old (omega (arith, few, keeps.same)))

-- a place that is looked at is one of rows
pub keeps_within : (test : ℕ → Bool) (old now : List ℕ) (kept at place bound : ℕ) → Keeps test old now kept at → All (λ (p : ℕ). p < bound) old → at < length now → place ≡ get_or now at place → place < bound
keeps_within test old now kept at place bound keeps all within is =
    let next = next_slot old now at place keeps.left within in
    subst (λ (n : ℕ). n < bound) (sym (is ∙ next.0)) (all at place next.1)

-- a row has the column, and what is told of its text
pub row_column : (column : ℕ) (rows : List Fields) (place : ℕ) (rule : Fields) → All (λ (r : Fields). column < length r) rows → slice_get rows place ≡ Some rule → column < length rule
row_column column rows place rule all there = subst (λ (r : Fields). column < length r) (get_or_from_slice_get rows place rule rule there) (all place rule (slice_get_within rows place rule there))

pub row_told : (column : ℕ) (text field : List ℕ) (rows : List Fields) (place : ℕ) (rule : Fields) (told : Bool) → slice_get rows place ≡ Some rule → slice_get rule column ≡ Some field → told ≡ bytes_eq text field → told ≡ has_text_at column text rows place
row_told column text field rows place rule told there here is =
    is ∙ sym (ap (λ (o : Option Fields). option_map_or (has_text column text) o false) there ∙ ap (λ (o : Option (List ℕ)). option_map_or (bytes_eq text) o false) here)
