-- Lists of distinct items after a removal and a renaming, and orders of slots.
use Rattle.std.proofs.Common.{◌≡◌, ℕ, ◌+◌, ◌-◌, ◌<◌, ◌==◌, Bool, true, false, not, ◌||◌, ◌&&◌, cond, nat_lt, List, [], ◌∷◌, ◌++◌, length, filter, position, Some, None, Decides, refl, sym, ap, subst, ◌∙◌, true≢false, arith}
use Rattle.std.specs.Prelude.{if◌then◌else◌}
use Rattle.std.specs.List.{AllByRecursion, IsDistinct, list_any}
use Rattle.std.proofs.lemmas.Bool.{le-ltb, lt-ltb, ltb-true}
use Rattle.std.proofs.lemmas.Bool.Decides.{Decides-eqb, nat_tests}
use Rattle.std.proofs.lemmas.List.{length-append, length-map}
use Rattle.std.proofs.lemmas.List.Elements.{All-from_recursion}
use Rattle.std.proofs.lemmas.List.Folds.{list_any-append}
use Rattle.std.proofs.lemmas.List.Sorted.{IsPermutation-middle, IsPermutation-sym}
use Rattle.std.proofs.lemmas.Map.Keys.{IsDistinct-IsPermutation, IsDistinct-cons}
use Rattle.policy_table.specs.Helps.Orders.{AreAllBelow, AreBelow, AreThese, by_id, has_id}
use Rattle.policy_table.proofs.RowLemmas.{absent_last, apart_from, distinct_passing, flipped, renamed, renamed-absent, without, without-absent}

module _ {T : Type 0} (eq : T → T → Bool) where
  -- an absent item is apart from each
  pub apart_absent : (key : T) (keys : List T) → list_any (eq key) keys ≡ false → AllByRecursion (λ other. eq key other ≡ false) keys
  apart_absent key [] absent = tt
  apart_absent key (x ∷ xs) absent = by (eq key x) refl absent (λ none. apart_absent key xs none)
    where
      by : (b : Bool) → eq key x ≡ b → (b || list_any (eq key) xs) ≡ false → (list_any (eq key) xs ≡ false → AllByRecursion (λ other. eq key other ≡ false) xs)
          → AllByRecursion (λ other. eq key other ≡ false) (x ∷ xs)
      by true e is rest = absurd (true≢false is)
      by false e is rest = (e, rest is)

  -- and has no place
  pub position_absent : (key : T) (keys : List T) → list_any (eq key) keys ≡ false → position (eq key) keys ≡ None
  position_absent key keys absent =
      ap (λ n. cond (nat_lt n (length keys)) (Some n) None) (absent_last eq keys key absent)
      ∙ ap (λ b. cond b (Some (length keys)) None) (le-ltb (length keys) (length keys) (omega arith))

  module _ (decides : (a b : T) → Decides (eq a b) (a ≡ b)) where
    -- an item stands among those that pass where it stands and passes
    pub any_passing : (test : T → Bool) (key : T) (keys : List T) → list_any (eq key) (filter test keys) ≡ (list_any (eq key) keys && test key)
    any_passing test key [] = refl
    any_passing test key (x ∷ xs) = by (test x) (eq key x) refl refl (any_passing test key xs)
      where
        and_false : (a : Bool) → (a && false) ≡ false
        and_false true = refl
        and_false false = refl

        same_test : eq key x ≡ true → test key ≡ test x
        same_test e = ap test ((decides key x).0 e)

        by : (kept is : Bool) → test x ≡ kept → eq key x ≡ is → list_any (eq key) (filter test xs) ≡ (list_any (eq key) xs && test key)
            → list_any (eq key) (cond kept (x ∷ filter test xs) (filter test xs)) ≡ ((is || list_any (eq key) xs) && test key)
        by true true k e rest = rw (e, same_test e ∙ k) refl
        by true false k e rest = rw e rest
        by false true k e rest =
            let fails : test key ≡ false = same_test e ∙ k in
            rest ∙ ap (λ b. list_any (eq key) xs && b) fails ∙ and_false (list_any (eq key) xs) ∙ sym fails
        by false false k e rest = rest

    -- of distinct items one goes
    pub length_without : (key : T) (keys : List T) → IsDistinct eq keys → list_any (eq key) keys ≡ true → length (without eq key keys) + 1 ≡ length keys
    unfolding IsDistinct
    length_without key [] distinct some = absurd (true≢false (sym some))
    length_without key (x ∷ xs) distinct some = by (eq key x) refl some (λ is. length_without key xs distinct.1 is)
      where
        by : (b : Bool) → eq key x ≡ b → (b || list_any (eq key) xs) ≡ true → (list_any (eq key) xs ≡ true → length (without eq key xs) + 1 ≡ length xs)
            → length (cond (not b) (x ∷ without eq key xs) (without eq key xs)) + 1 ≡ length (x ∷ xs)
        by true e is rest = omega (arith, ap length (without-absent eq key xs (apart_from eq decides key x xs e distinct.0)))
        by false e is rest = omega (arith, rest is)

    -- which items stand with a new one in the place of an old one
    pub any_renamed : (old new key : T) (keys : List T) → list_any (eq key) (renamed eq old new keys) ≡ ((eq key new && list_any (eq old) keys) || (list_any (eq key) keys && not (eq old key)))
    any_renamed old new key [] = none (eq key new)
      where
        none : (b : Bool) → false ≡ ((b && false) || (false && not (eq old key)))
        none true = refl
        none false = refl
    any_renamed old new key (y ∷ keys) = by (eq old y) refl (any_renamed old new key keys)
      where
        here : (n s o : Bool) → (n || ((n && list_any (eq old) keys) || (s && not o))) ≡ ((n && true) || ((o || s) && not o))
        here true s o = refl
        here false true true = refl
        here false false true = refl
        here false s false = refl

        there : (y p s o : Bool) → (y ≡ true → o ≡ false) → (y || (p || (s && not o))) ≡ (p || ((y || s) && not o))
        there false p s o apart = refl
        there true true s false apart = refl
        there true false s false apart = refl
        there true p s true apart = absurd (true≢false (apart refl))

        by : (b : Bool) → eq old y ≡ b → list_any (eq key) (renamed eq old new keys) ≡ ((eq key new && list_any (eq old) keys) || (list_any (eq key) keys && not (eq old key)))
            → (eq key (if b then new else y) || list_any (eq key) (renamed eq old new keys)) ≡ ((eq key new && (b || list_any (eq old) keys)) || ((eq key y || list_any (eq key) keys) && not (eq old key)))
        by true e rest =
            let is : eq old key ≡ eq key y = flipped eq decides old key ∙ ap (eq key) ((decides old y).0 e) in
            ap (λ b. eq key new || b) rest ∙ here (eq key new) (list_any (eq key) keys) (eq old key)
            ∙ ap (λ b. (eq key new && true) || ((b || list_any (eq key) keys) && not (eq old key))) is
        by false e rest =
            ap (λ b. eq key y || b) rest
            ∙ there (eq key y) (eq key new && list_any (eq old) keys) (list_any (eq key) keys) (eq old key) (λ is. ap (eq old) ((decides key y).0 is) ∙ e)

    apart_renamed : (x old new : T) (keys : List T) → AllByRecursion (λ other. eq x other ≡ false) keys → eq x new ≡ false → AllByRecursion (λ other. eq x other ≡ false) (renamed eq old new keys)
    apart_renamed x old new [] apart e = tt
    apart_renamed x old new (y ∷ keys) apart e = (by (eq old y), apart_renamed x old new keys apart.1 e)
      where
        by : (b : Bool) → eq x (if b then new else y) ≡ false
        by true = e
        by false = apart.0

    -- they are distinct where the new one is absent
    pub distinct_renamed : (old new : T) (keys : List T) → IsDistinct eq keys → AllByRecursion (λ other. eq new other ≡ false) keys → IsDistinct eq (renamed eq old new keys)
    unfolding IsDistinct
    distinct_renamed old new [] distinct apart = tt
    distinct_renamed old new (x ∷ keys) distinct apart = (by (eq old x) refl, distinct_renamed old new keys distinct.1 apart.1)
      where
        by : (b : Bool) → eq old x ≡ b → AllByRecursion (λ other. eq (if b then new else x) other ≡ false) (renamed eq old new keys)
        by true e = subst (λ l. AllByRecursion (λ other. eq new other ≡ false) l) (sym (renamed-absent eq old new keys (apart_from eq decides old x keys e distinct.0))) apart.1
        by false e = apart_renamed x old new keys distinct.0 (flipped eq decides x new ∙ apart.0)

-- two slots are the same where their numbers are
pub by_id-Decides : (a b : ℕ) → Decides (by_id a b) (a ≡ b)
by_id-Decides a b = ((λ e. sym ((Decides-eqb b a).0 e)), (λ e. (Decides-eqb b a).1 (sym e)))

-- a test that holds of one that stands
pub any_at : (test : ℕ → Bool) (id : ℕ) (ids : List ℕ) → has_id id ids ≡ true → test id ≡ true → list_any test ids ≡ true
any_at test id [] some is = absurd (true≢false (sym some))
any_at test id (x ∷ xs) some is = by (by_id id x) refl some (λ rest. any_at test id xs rest is)
  where
    or_true : (a : Bool) → (a || true) ≡ true
    or_true true = refl
    or_true false = refl

    by : (b : Bool) → by_id id x ≡ b → (b || has_id id xs) ≡ true → (has_id id xs ≡ true → list_any test xs ≡ true) → (test x || list_any test xs) ≡ true
    by true e some rest = ap (λ b. b || list_any test xs) (ap test (sym ((by_id-Decides id x).0 e)) ∙ is)
    by false e some rest = ap (λ b. test x || b) (rest some) ∙ or_true (test x)

-- where others stand for the same test
pub these_same : {S Z : ℕ → Bool} {n m : ℕ} {ids : List ℕ} → AreThese S n ids → ((id : ℕ) → S id ≡ Z id) → n ≡ m → AreThese Z m ids
these_same these tests counts = record { all = λ id. these.all id ∙ tests id; once = these.once; count = these.count ∙ counts }

-- one more is put between them
pub these_put : (S : ℕ → Bool) (n slot : ℕ) (ids front back : List ℕ) → AreThese S n ids → S slot ≡ false → ids ≡ front ++ back → AreThese (λ id. by_id id slot || S id) (n + 1) (front ++ slot ∷ back)
these_put S n slot ids front back these absent parts = record {
  all = λ id. list_any-append (by_id id) front (slot ∷ back) ∙ turned (has_id id front) (by_id id slot) (has_id id back)
      ∙ ap (λ b. by_id id slot || b) (sym (list_any-append (by_id id) front back) ∙ ap (has_id id) (sym parts) ∙ these.all id);
  once = IsDistinct-IsPermutation by_id (flipped by_id by_id-Decides) (slot ∷ (front ++ back)) (front ++ slot ∷ back) (IsPermutation-sym (front ++ slot ∷ back) (slot ∷ (front ++ back)) (IsPermutation-middle front slot back))
      (IsDistinct-cons by_id slot (front ++ back) (apart_absent by_id slot (front ++ back) (ap (has_id slot) (sym parts) ∙ these.all slot ∙ absent)) (subst (IsDistinct by_id) parts these.once));
  count = omega (arith, length-append front (slot ∷ back), length-append front back, ap length parts, these.count);
}
  where
    turned : (a b c : Bool) → (a || (b || c)) ≡ (b || (a || c))
    turned true true c = refl
    turned true false c = refl
    turned false b c = refl

-- one of them is taken out
pub these_taken : (S : ℕ → Bool) (n slot : ℕ) (ids : List ℕ) → AreThese S n ids → S slot ≡ true → AreThese (λ id. S id && not (by_id slot id)) (n - 1) (without by_id slot ids)
these_taken S n slot ids these stands = record {
  all = λ id. any_passing by_id by_id-Decides (λ other. not (by_id slot other)) id ids ∙ ap (λ b. b && not (by_id slot id)) (these.all id);
  once = distinct_passing by_id (λ other. not (by_id slot other)) ids these.once;
  count = omega (arith, length_without by_id by_id-Decides slot ids these.once (these.all slot ∙ stands), these.count);
}

-- one of them gets another name
pub these_renamed : (S : ℕ → Bool) (n old new : ℕ) (ids : List ℕ) → AreThese S n ids → S new ≡ false → AreThese (λ id. (by_id id new && S old) || (S id && not (by_id old id))) n (renamed by_id old new ids)
these_renamed S n old new ids these absent = record {
  all = λ id. any_renamed by_id by_id-Decides old new id ids ∙ (λ j. (by_id id new && these.all old j) || (these.all id j && not (by_id old id)));
  once = distinct_renamed by_id by_id-Decides old new ids these.once (apart_absent by_id new ids (these.all new ∙ absent));
  count = length-map ids (λ (other : ℕ). if by_id old other then new else other) ∙ these.count;
}

-- the next slot is put among all below it
pub next_put : (n : ℕ) (ids front back : List ℕ) → AreAllBelow n ids → ids ≡ front ++ back → AreAllBelow (n + 1) (front ++ n ∷ back)
next_put n ids front back these parts = these_same (these_put (λ id. nat_lt id n) n n ids front back these (le-ltb n n (omega arith)) parts) (λ id. test id) refl
  where
    test : (id : ℕ) → (by_id id n || nat_lt id n) ≡ nat_lt id (n + 1)
    test id = grind (arith, nat_tests)

-- one is put back
pub same_put : (n slot : ℕ) (ids front back : List ℕ) → AreAllBelow n ids → slot < n → without by_id slot ids ≡ front ++ back → AreAllBelow n (front ++ slot ∷ back)
same_put n slot ids front back these within parts =
    these_same (these_put (λ id. nat_lt id n && not (by_id slot id)) (n - 1) slot (without by_id slot ids) front back (these_taken (λ id. nat_lt id n) n slot ids these (lt-ltb slot n within)) gone parts) (λ id. test id) (omega (arith, within))
  where
    gone : (nat_lt slot n && not (by_id slot slot)) ≡ false
    gone = grind (arith, nat_tests)

    test : (id : ℕ) → (by_id id slot || (nat_lt id n && not (by_id slot id))) ≡ nat_lt id n
    test id = grind (arith, nat_tests)

-- one is taken out, and the last takes its name
pub last_renamed : (n slot : ℕ) (ids : List ℕ) → AreAllBelow n ids → slot < n → AreAllBelow (n - 1) (renamed by_id (n - 1) slot (without by_id slot ids))
last_renamed n slot ids these within =
    these_same (these_renamed (λ id. nat_lt id n && not (by_id slot id)) (n - 1) (n - 1) slot (without by_id slot ids) (these_taken (λ id. nat_lt id n) n slot ids these (lt-ltb slot n within)) gone) (λ id. test id) refl
  where
    gone : (nat_lt slot n && not (by_id slot slot)) ≡ false
    gone = grind (arith, nat_tests)

    test : (id : ℕ) → ((by_id id slot && (nat_lt (n - 1) n && not (by_id slot (n - 1)))) || ((nat_lt id n && not (by_id slot id)) && not (by_id (n - 1) id))) ≡ nat_lt id (n - 1)
    test id = grind (arith, nat_tests)

-- a slot that does not stand has no place
pub no_place : (id : ℕ) (ids : List ℕ) → has_id id ids ≡ false → position (λ x. x == id) ids ≡ None
no_place id ids absent = position_absent by_id id ids absent

-- all of them lie below the bound
pub below_bound : (n : ℕ) (ids : List ℕ) → ((id : ℕ) → has_id id ids ≡ true → id < n) → AreBelow n ids
below_bound n ids each = All-from_recursion (λ (id : ℕ). id < n) ids (by ids each)
  where
    by : (xs : List ℕ) → ((id : ℕ) → has_id id xs ≡ true → id < n) → AllByRecursion (λ (id : ℕ). id < n) xs
    by [] each = tt
    by (x ∷ xs) each = (each x (ap (λ b. b || has_id x xs) ((by_id-Decides x x).1 refl)), by xs (λ id some. each id (ap (λ b. by_id id x || b) some ∙ or_true (by_id id x))))
      where
        or_true : (a : Bool) → (a || true) ≡ true
        or_true true = refl
        or_true false = refl

pub all_below : (n : ℕ) (ids : List ℕ) → AreAllBelow n ids → AreBelow n ids
all_below n ids these = below_bound n ids (λ id some. ltb-true id n (sym (these.all id) ∙ some))

-- those that are left when one is out do too, and it is none of them
pub left_below : (n slot : ℕ) (ids : List ℕ) → AreAllBelow n ids → AreBelow n (without by_id slot ids)
left_below n slot ids these =
    below_bound n (without by_id slot ids)
    (λ id some. ltb-true id n (sym (these.all id) ∙ first (has_id id ids) (not (by_id slot id)) (sym (any_passing by_id by_id-Decides (λ other. not (by_id slot other)) id ids) ∙ some)))
  where
    first : (a b : Bool) → (a && b) ≡ true → a ≡ true
    first true b is = refl
    first false b is = is

pub left_absent : (slot : ℕ) (ids : List ℕ) → has_id slot (without by_id slot ids) ≡ false
left_absent slot ids =
    any_passing by_id by_id-Decides (λ other. not (by_id slot other)) slot ids ∙ ap (λ b. has_id slot ids && not b) ((by_id-Decides slot slot).1 refl) ∙ and_false (has_id slot ids)
  where
    and_false : (a : Bool) → (a && false) ≡ false
    and_false true = refl
    and_false false = refl
