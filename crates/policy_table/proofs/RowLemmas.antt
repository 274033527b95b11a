-- Lists of distinct items whose `eq` decides equality: what a set's changes make of them.
use Rattle.std.proofs.Common.{◌≡◌, ℕ, suc, ◌+◌, ◌-◌, ◌<◌, ◌≤◌, Bool, true, false, not, ◌||◌, cond, if◌then◌else◌, eqb, refl, sym, ap, subst, ◌∙◌, true≢false, arith}
use Rattle.std.proofs.Common.{List, [], ◌∷◌, ◌++◌, length, get_or, take, drop, set, filter, map, position, Some, Decides}
use Rattle.std.proofs.lemmas.Bool.{lt-ltb}
use Rattle.std.proofs.lemmas.Bool.Decides.{same_from_decides, nat_tests}
use Rattle.std.proofs.lemmas.List.{drop_more, get_or_push, length_push, take-append-drop, take_more, set-append_left, length-set, take_at}
use Rattle.std.proofs.lemmas.List.Folds.{position_or_len_push}
use Rattle.std.proofs.lemmas.Slice.Eq.{bytes_eq-Decides, slice_eq-Decides}
use Rattle.std.proofs.Math.Bool.{or-false}
use Rattle.std.specs.List.{list_any, position_or_len, swap_remove, AllByRecursion, IsDistinct}
use Rattle.std.specs.Option.{option_map_or}
use Rattle.std.specs.Set.{remove_key}
use Rattle.indexmap.specs.IndexMap.{move_index, swap_remove_by}
use Rattle.indexmap.specs.IndexSet.{insert_key}
use Rattle.indexmap.proofs.MoveLemmas.{push_moved}
use Rattle.policy_table.specs.Tables.{Fields, same}

-- two rules are the same where their fields are
pub same-Decides : (first second : Fields) → Decides (same first second) (first ≡ second)
same-Decides first second = slice_eq-Decides bytes_eq-Decides first second (same first second) refl

module _ {T : Type 0} (test : T → Bool) where
  -- the first that passes is one of those where one passes
  pub position_or_len-within : (keys : List T) → list_any test keys ≡ true → position_or_len test keys < length keys
  position_or_len-within [] some = absurd (true≢false (sym some))
  position_or_len-within (x ∷ xs) some = by (test x) refl (position_or_len-within xs)
    where
      by : (b : Bool) → test x ≡ b → (list_any test xs ≡ true → position_or_len test xs < length xs) → position_or_len test (x ∷ xs) < length (x ∷ xs)
      by true e rest = rw e (omega arith)
      by false e rest = let within = rest (rw e at some) in rw e (omega arith)

  -- one more behind them does not change which is the first
  position_or_len-before : (keys : List T) (new : T) → position_or_len test keys < length keys → position_or_len test (keys ++ new ∷ []) ≡ position_or_len test keys
  position_or_len-before keys new within =
      let before : eqb (position_or_len test keys) (length keys) ≡ false = grind (arith, nat_tests) in
      position_or_len_push test keys new ∙ ap (λ b. cond b (length keys + cond (test new) 0 1) (position_or_len test keys)) before

  -- the last item takes the place of another
  swap_remove-push : (keys : List T) (new d : T) (i : ℕ) → i < length keys → swap_remove (keys ++ new ∷ []) i d ≡ set keys i new
  swap_remove-push keys new d i within =
      let last : length (keys ++ new ∷ []) - 1 ≡ length keys = omega (arith, length_push keys new) in
      rw (last, get_or_push keys new d (length keys) refl, set-append_left keys (new ∷ []) i new within) (take_at (set keys i new) (new ∷ []) (length keys) (length-set keys i new))

  -- and so it takes that of the first that passes
  swap_remove_by-push : (keys : List T) (new : T) → list_any test keys ≡ true → swap_remove_by test (keys ++ new ∷ []) ≡ set keys (position_or_len test keys) new
  swap_remove_by-push [] new some = absurd (true≢false (sym some))
  swap_remove_by-push (x ∷ xs) new some =
      let keys = x ∷ xs in
      let i = position_or_len test keys in
      let within = position_or_len-within keys some in
      let all = keys ++ new ∷ [] in
      let found : position test all ≡ Some i = rw (position_or_len-before keys new within, lt-ltb i (length all) (omega (arith, length_push keys new))) in
      ap (λ o. option_map_or (λ n. swap_remove all n x) o all) found ∙ swap_remove-push keys new x i within

-- a list of one item
pub one_item : {T : Type 0} (items : List T) (x : T) → length items ≡ 1 → x ≡ get_or items 0 x → items ≡ x ∷ []
one_item [] x one here = absurd (omega arith)
one_item (y ∷ []) x one here = ap (λ z. z ∷ []) (sym here)
one_item (y ∷ z ∷ zs) x one here = absurd (omega arith)

-- what holds of each item holds of those in front
all_front : {T : Type 0} (P : T → Type 0) (front back : List T) → AllByRecursion P (front ++ back) → AllByRecursion P front
all_front P [] back all = tt
all_front P (x ∷ xs) back all = (all.0, all_front P xs back all.1)

-- and of one behind them
all_behind : {T : Type 0} (P : T → Type 0) (front back : List T) (x : T) → AllByRecursion P (front ++ x ∷ back) → P x
all_behind P [] back x all = all.0
all_behind P (y ∷ ys) back x all = all_behind P ys back x all.1

module _ {T : Type 0} (eq : T → T → Bool) where
  -- the keys but those that are equal to this one
  abbrev pub without : T → List T → List T
  without key keys = filter (λ other. not (eq key other)) keys

  -- the keys with a new one in the place of each that is equal to the old one
  abbrev pub renamed : T → T → List T → List T
  renamed old new keys = map (λ other. if eq old other then new else other) keys

  -- an absent key would stand behind all
  pub absent_last : (keys : List T) (key : T) → list_any (eq key) keys ≡ false → position_or_len (eq key) keys ≡ length keys
  absent_last [] key absent = refl
  absent_last (x ∷ xs) key absent = by (eq key x) refl absent (λ none. absent_last xs key none)
    where
      by : (b : Bool) → eq key x ≡ b → (b || list_any (eq key) xs) ≡ false → (list_any (eq key) xs ≡ false → position_or_len (eq key) xs ≡ length xs) → position_or_len (eq key) (x ∷ xs) ≡ length (x ∷ xs)
      by true e none rest = absurd (true≢false none)
      by false e none rest = rw e (omega (arith, rest none))

  -- an absent key goes last
  pub insert_key-absent : (keys : List T) (key : T) → list_any (eq key) keys ≡ false → insert_key eq keys key ≡ keys ++ key ∷ []
  insert_key-absent keys key absent = rw absent

  -- and from there to another place
  pub shifted_in : (keys : List T) (key : T) (at : ℕ) → at ≤ length keys → list_any (eq key) keys ≡ false
      → move_index (insert_key eq keys key) (position_or_len (eq key) keys) at ≡ take at keys ++ key ∷ drop at keys
  shifted_in keys key at within absent =
      ap (λ l. move_index l (position_or_len (eq key) keys) at) (insert_key-absent keys key absent)
      ∙ ap (λ n. move_index (keys ++ key ∷ []) n at) (absent_last keys key absent) ∙ push_moved keys key at within

  -- those in front of distinct keys are distinct
  pub IsDistinct-front : (front back : List T) → IsDistinct eq (front ++ back) → IsDistinct eq front
  unfolding IsDistinct
  IsDistinct-front [] back distinct = tt
  IsDistinct-front (x ∷ xs) back distinct = (all_front (λ other. eq x other ≡ false) xs back distinct.0, IsDistinct-front xs back distinct.1)

  -- where none is the key, none goes
  pub without-absent : (key : T) (keys : List T) → AllByRecursion (λ other. eq key other ≡ false) keys → without key keys ≡ keys
  without-absent key [] apart = refl
  without-absent key (x ∷ xs) apart = rw apart.0 (ap (λ l. x ∷ l) (without-absent key xs apart.1))

  -- and none is renamed
  pub renamed-absent : (old new : T) (keys : List T) → AllByRecursion (λ other. eq old other ≡ false) keys → renamed old new keys ≡ keys
  renamed-absent old new [] apart = refl
  renamed-absent old new (x ∷ xs) apart = rw apart.0 (ap (λ l. x ∷ l) (renamed-absent old new xs apart.1))

  module _ (decides : (a b : T) → Decides (eq a b) (a ≡ b)) where
    -- equality has two sides
    pub flipped : (a b : T) → eq a b ≡ eq b a
    flipped a b = same_from_decides (eq a b) (eq b a) (decides a b) ((λ e. sym ((decides b a).0 e)), (λ e. (decides b a).1 (sym e)))

    -- what is apart from an item is apart from what it equals
    pub apart_from : (key x : T) (xs : List T) → eq key x ≡ true → AllByRecursion (λ other. eq x other ≡ false) xs → AllByRecursion (λ other. eq key other ≡ false) xs
    apart_from key x xs e apart = subst (λ k. AllByRecursion (λ other. eq k other ≡ false) xs) (sym ((decides key x).0 e)) apart

    -- among distinct keys there is one at most to take out
    pub remove_key-without : (key : T) (keys : List T) → IsDistinct eq keys → remove_key (eq key) keys ≡ without key keys
    unfolding IsDistinct
    remove_key-without key [] distinct = refl
    remove_key-without key (x ∷ xs) distinct = by (eq key x) refl (remove_key-without key xs distinct.1)
      where
        by : (b : Bool) → eq key x ≡ b → remove_key (eq key) xs ≡ without key xs → remove_key (eq key) (x ∷ xs) ≡ without key (x ∷ xs)
        by true e rest = rw e (sym (without-absent key xs (apart_from key x xs e distinct.0)))
        by false e rest = rw e (ap (λ l. x ∷ l) rest)

    -- and one at most to rename
    set-renamed : (old new : T) (keys : List T) → IsDistinct eq keys → list_any (eq old) keys ≡ true
        → set keys (position_or_len (eq old) keys) new ≡ renamed old new keys
    unfolding IsDistinct
    set-renamed old new [] distinct stands = absurd (true≢false (sym stands))
    set-renamed old new (x ∷ xs) distinct stands = by (eq old x) refl (set-renamed old new xs distinct.1)
      where
        by : (b : Bool) → eq old x ≡ b → (list_any (eq old) xs ≡ true → set xs (position_or_len (eq old) xs) new ≡ renamed old new xs)
            → set (x ∷ xs) (position_or_len (eq old) (x ∷ xs)) new ≡ renamed old new (x ∷ xs)
        by true e rest = rw e (ap (λ l. new ∷ l) (sym (renamed-absent old new xs (apart_from old x xs e distinct.0))))
        by false e rest =
            let next : 1 + position_or_len (eq old) xs ≡ suc (position_or_len (eq old) xs) = omega arith in
            rw (e, next) (ap (λ l. x ∷ l) (rest (rw e at stands)))

    -- so the last of distinct keys takes the place of the old one
    pub swap_remove_by-renamed : (old new : T) (keys : List T) → IsDistinct eq keys → list_any (eq old) keys ≡ true
        → swap_remove_by (eq old) (keys ++ new ∷ []) ≡ renamed old new keys
    swap_remove_by-renamed old new keys distinct stands = swap_remove_by-push (eq old) keys new stands ∙ set-renamed old new keys distinct stands

    -- to take out the one item of a list is to take out the items of the list
    pub without-alone : (key : T) (gone keys : List T) → gone ≡ key ∷ [] → without key keys ≡ filter (λ other. not (list_any (eq other) gone)) keys
    without-alone key gone keys alone =
        let tests = λ (other : T). (let e : not (eq key other) ≡ not (eq other key || false) = ap not (flipped key other ∙ sym (or-false (eq other key))) in e) in
        (λ j. filter (λ other. tests other j) keys) ∙ ap (λ l. filter (λ other. not (list_any (eq other) l)) keys) (sym alone)

    -- a distinct key does not stand among those before it
    pub absent_before : (front back : List T) (x : T) → IsDistinct eq (front ++ x ∷ back) → list_any (eq x) front ≡ false
    unfolding IsDistinct
    absent_before [] back x distinct = refl
    absent_before (y ∷ ys) back x distinct = rw (flipped x y ∙ all_behind (λ other. eq y other ≡ false) ys back x distinct.0) (absent_before ys back x distinct.1)

    -- distinct keys that are inserted in turn stay in their order
    pub insert_key-take : (keys items new : List T) (x : T) (at : ℕ) → IsDistinct eq items → at < length items
        → keys ≡ take at items → x ≡ get_or items at x → new ≡ insert_key eq keys x → new ≡ take (at + 1) items
    insert_key-take keys items new x at distinct within kept here inserted =
        let parts : items ≡ take at items ++ x ∷ drop (at + 1) items
        = sym (take-append-drop at items) ∙ ap (λ l. take at items ++ l) (drop_more items at x within ∙ ap (λ y. y ∷ drop (at + 1) items) (sym here)) in
        let absent = absent_before (take at items) (drop (at + 1) items) x (subst (IsDistinct eq) parts distinct) in
        inserted ∙ ap (λ l. insert_key eq l x) kept ∙ insert_key-absent (take at items) x absent
        ∙ sym (take_more items at x within ∙ ap (λ y. take at items ++ y ∷ []) (sym here))

-- what passes a test is apart from what all are apart from, and distinct where all are
apart_filter : {X : Type 0} (eq : X → X → Bool) (x : X) (test : X → Bool) (xs : List X) → AllByRecursion (λ (other : X). eq x other ≡ false) xs → AllByRecursion (λ (other : X). eq x other ≡ false) (filter test xs)
apart_filter eq x test [] apart = tt
apart_filter {X} eq x test (y ∷ xs) apart = by (test y) (apart_filter eq x test xs apart.1)
  where
    by : (b : Bool) → AllByRecursion (λ (other : X). eq x other ≡ false) (filter test xs) → AllByRecursion (λ (other : X). eq x other ≡ false) (cond b (y ∷ filter test xs) (filter test xs))
    by true rest = (apart.0, rest)
    by false rest = rest

pub distinct_passing : {X : Type 0} (eq : X → X → Bool) (test : X → Bool) (xs : List X) → IsDistinct eq xs → IsDistinct eq (filter test xs)
unfolding IsDistinct
distinct_passing eq test [] distinct = tt
distinct_passing eq test (x ∷ xs) distinct = by (test x) (distinct_passing eq test xs distinct.1)
  where
    by : (b : Bool) → IsDistinct eq (filter test xs) → IsDistinct eq (cond b (x ∷ filter test xs) (filter test xs))
    by true rest = (apart_filter eq x test xs distinct.0, rest)
    by false rest = rest
