-- The rules of one table after a change: which stand, how many there are, and that none stands twice.
use Rattle.std.proofs.Common.{◌≡◌, ℕ, ◌+◌, ◌<◌, ◌≤◌, ◌^◌, Bool, true, false, ◌||◌, ◌&&◌, cond, List, [], ◌∷◌, ◌++◌, length, filter, Option, Some, None, Decides, refl, sym, ap, subst, ◌∙◌, arith, true≢false}
use Rattle.std.specs.Prelude.{if◌then◌else◌, not}
use Rattle.std.specs.List.{AllByRecursion, IsDistinct}
use Rattle.std.specs.List.Sorted.{IsPermutation}
use Rattle.std.specs.Option.{option_map_or}
use Rattle.std.proofs.Math.ListN.{set}
use Rattle.std.proofs.lemmas.Bool.{and_parts}
use Rattle.std.proofs.lemmas.Cmp.{lists_equiv, nat_list_eq_equiv}
use Rattle.std.proofs.lemmas.List.{length-map, length-set}
use Rattle.std.proofs.lemmas.List.Elements.{All-set}
use Rattle.std.proofs.lemmas.List.Sorted.{IsPermutation-cons, IsPermutation-filter_both, IsPermutation-middle, IsPermutation-sym, IsPermutation-to_front, IsPermutation-trans, length_permutation, list_any-IsPermutation}
use Rattle.std.proofs.lemmas.Map.Keys.{IsDistinct-IsPermutation, IsDistinct-cons}
use Rattle.policy_table.specs.Changes.{changed, changed_rules, in_place, inserted, ranked_in, replaced, suits, table_of, without}
use Rattle.policy_table.specs.Ranks.{is_above, is_level}
use Rattle.policy_table.specs.Tables.{AreLists, Fields, Policy, is_ranked, place, rows, same, stands}
use Rattle.policy_table.specs.declared.change.Change.{Change}
use Rattle.policy_table.specs.declared.change.Change.TheVariants.{Insert, Remove, Replace}
use Rattle.policy_table.proofs.RankLemmas.{high, low}
use Rattle.policy_table.proofs.RowLemmas.{apart_from, distinct_passing, renamed-absent, same-Decides as decides, without-absent}

-- two rules are the same where their fields are
pub same-Decides : (first second : Fields) → Decides (same first second) (first ≡ second)
same-Decides first second = decides first second

-- equality of rules goes both ways
pub same_symm : (x y : Fields) → same x y ≡ same y x
same_symm x y = (lists_equiv nat_list_eq_equiv).symm x y

-- no test makes a list longer
pub fewer : {X : Type 0} (p : X → Bool) (xs : List X) → length (filter p xs) ≤ length xs
fewer p [] = omega arith
fewer p (x ∷ xs) = by_test (p x) (fewer p xs)
  where
    by_test : (test : Bool) → length (filter p xs) ≤ length xs → length (cond test (x ∷ filter p xs) (filter p xs)) ≤ length (x ∷ xs)
    by_test true le = omega (arith, le)
    by_test false le = omega (arith, le)

-- all rules pass where none is named
pub keeps_all : (xs : List Fields) → filter (λ (other : Fields). not (stands other [])) xs ≡ xs
keeps_all [] = refl
keeps_all (x ∷ xs) = ap (λ (l : List Fields). x ∷ l) (keeps_all xs)

-- one rule out, and then others, is all of them out
pub out_and_out : (rule : Fields) (gone xs : List Fields) → filter (λ (other : Fields). not (stands other gone)) (without rule xs) ≡ filter (λ (other : Fields). not (stands other (rule ∷ gone))) xs
out_and_out rule gone [] = refl
out_and_out rule gone (x ∷ xs) = by_test (same rule x) (same x rule) (same_symm rule x) (out_and_out rule gone xs)
  where
    by_test : (a b : Bool) → a ≡ b → filter (λ (other : Fields). not (stands other gone)) (without rule xs) ≡ filter (λ (other : Fields). not (stands other (rule ∷ gone))) xs
        → filter (λ (other : Fields). not (stands other gone)) (cond (not a) (x ∷ without rule xs) (without rule xs))
        ≡ cond (not (b || stands x gone)) (x ∷ filter (λ (other : Fields). not (stands other (rule ∷ gone))) xs) (filter (λ (other : Fields). not (stands other (rule ∷ gone))) xs)
    by_test true true e rest = rest
    by_test true false e rest = absurd (true≢false e)
    by_test false true e rest = absurd (true≢false (sym e))
    by_test false false e rest = ap (λ (l : List Fields). cond (not (stands x gone)) (x ∷ l) l) rest

-- ranked rules with one more are, but for the order, that rule and the others
pub ranked_in-IsPermutation : (rule : Fields) (rules : List Fields) → IsPermutation (rule ∷ rules) (ranked_in rule rules)
ranked_in-IsPermutation rule rules =
    IsPermutation-trans (rule ∷ rules) (rule ∷ (front ++ back)) (front ++ rule ∷ back) (IsPermutation-cons rule rules (front ++ back) (IsPermutation-filter_both (low rule) (high rule) (λ x. twice (is_above x rule)) rules))
    (IsPermutation-sym (front ++ rule ∷ back) (rule ∷ (front ++ back)) (IsPermutation-middle front rule back))
  where
    front : List Fields
    front = filter (low rule) rules

    back : List Fields
    back = filter (high rule) rules

    twice : (b : Bool) → b ≡ not (not b)
    twice true = refl
    twice false = refl

-- and so are others
pub inserted-IsPermutation : (ranked : Bool) (rule : Fields) (rules : List Fields) → IsPermutation (rule ∷ rules) (inserted ranked rule rules)
inserted-IsPermutation true rule rules = ranked_in-IsPermutation rule rules
inserted-IsPermutation false rule rules = IsPermutation-sym (rules ++ rule ∷ []) (rule ∷ rules) (IsPermutation-to_front rules rule)

-- a rule stands among those that pass where it stands and passes
pub stands-filter : (test : Fields → Bool) (rule : Fields) (rules : List Fields) → stands rule (filter test rules) ≡ (stands rule rules && test rule)
stands-filter test rule [] = refl
stands-filter test rule (x ∷ xs) = by (test x) (same rule x) refl refl (stands-filter test rule xs)
  where
    and_false : (a : Bool) → (a && false) ≡ false
    and_false true = refl
    and_false false = refl

    same_test : same rule x ≡ true → test rule ≡ test x
    same_test e = ap test ((same-Decides rule x).0 e)

    by : (kept is : Bool) → test x ≡ kept → same rule x ≡ is → stands rule (filter test xs) ≡ (stands rule xs && test rule)
        → stands rule (cond kept (x ∷ filter test xs) (filter test xs)) ≡ ((is || stands rule xs) && test rule)
    by true true k e rest = rw (e, same_test e ∙ k) refl
    by true false k e rest = rw e rest
    by false true k e rest =
        let fails : test rule ≡ false = same_test e ∙ k in
        rest ∙ ap (λ (b : Bool). stands rule xs && b) fails ∙ and_false (stands rule xs) ∙ sym fails
    by false false k e rest = rest

-- which rules stand with one more
pub stands-inserted : (ranked : Bool) (x rule : Fields) (rules : List Fields) → stands x (inserted ranked rule rules) ≡ (same x rule || stands x rules)
stands-inserted ranked x rule rules = sym (list_any-IsPermutation (same x) (rule ∷ rules) (inserted ranked rule rules) (inserted-IsPermutation ranked rule rules))

-- and without one
pub stands-without : (x rule : Fields) (rules : List Fields) → stands x (without rule rules) ≡ (stands x rules && not (same rule x))
stands-without x rule rules = stands-filter (λ (other : Fields). not (same rule other)) x rules

-- and with a new rule in the place of an old one
pub stands-in_place : (old new x : Fields) (rules : List Fields) → stands x (in_place old new rules) ≡ ((same x new && stands old rules) || (stands x rules && not (same old x)))
stands-in_place old new x [] = none (same x new)
  where
    none : (b : Bool) → false ≡ ((b && false) || (false && not (same old x)))
    none true = refl
    none false = refl
stands-in_place old new x (y ∷ rules) = by (same old y) refl (stands-in_place old new x rules)
  where
    here : (n s o : Bool) → (n || ((n && stands old rules) || (s && not o))) ≡ ((n && true) || ((o || s) && not o))
    here true s o = refl
    here false true true = refl
    here false false true = refl
    here false s false = refl

    there : (y p s o : Bool) → (y ≡ true → o ≡ false) → (y || (p || (s && not o))) ≡ (p || ((y || s) && not o))
    there false p s o apart = refl
    there true true s false apart = refl
    there true false s false apart = refl
    there true p s true apart = absurd (true≢false (apart refl))

    by : (b : Bool) → same old y ≡ b → stands x (in_place old new rules) ≡ ((same x new && stands old rules) || (stands x rules && not (same old x)))
        → (same x (if b then new else y) || stands x (in_place old new rules)) ≡ ((same x new && (b || stands old rules)) || ((same x y || stands x rules) && not (same old x)))
    by true e rest =
        let is : same old x ≡ same x y = same_symm old x ∙ ap (same x) ((same-Decides old y).0 e) in
        ap (λ (b : Bool). same x new || b) rest ∙ here (same x new) (stands x rules) (same old x)
        ∙ ap (λ (b : Bool). (same x new && true) || ((b || stands x rules) && not (same old x))) is
    by false e rest =
        ap (λ (b : Bool). same x y || b) rest
        ∙ there (same x y) (same x new && stands old rules) (stands x rules) (same old x) (λ is. ap (same old) ((same-Decides x y).0 is) ∙ e)

-- no rule of these is this one
abbrev AreApart : Fields → List Fields → Type 0
AreApart rule rules = AllByRecursion (λ (other : Fields). same rule other ≡ false) rules

-- an absent rule is apart from each
apart_absent : (rule : Fields) (rules : List Fields) → stands rule rules ≡ false → AreApart rule rules
apart_absent rule [] absent = tt
apart_absent rule (x ∷ rules) absent = by (same rule x) refl absent (λ is. apart_absent rule rules is)
  where
    by : (b : Bool) → same rule x ≡ b → (b || stands rule rules) ≡ false → (stands rule rules ≡ false → AreApart rule rules) → AreApart rule (x ∷ rules)
    by true e is rest = absurd (true≢false is)
    by false e is rest = (e, rest is)

-- distinct rules that pass a test are distinct
pub distinct_filter : (test : Fields → Bool) (rules : List Fields) → IsDistinct same rules → IsDistinct same (filter test rules)
distinct_filter test rules distinct = distinct_passing same test rules distinct

-- and so are distinct rules with one more that is absent
pub distinct_inserted : (ranked : Bool) (rule : Fields) (rules : List Fields) → IsDistinct same rules → stands rule rules ≡ false → IsDistinct same (inserted ranked rule rules)
distinct_inserted ranked rule rules distinct absent =
    IsDistinct-IsPermutation same same_symm (rule ∷ rules) (inserted ranked rule rules) (inserted-IsPermutation ranked rule rules) (IsDistinct-cons same rule rules (apart_absent rule rules absent) distinct)

-- what is apart from the rules and from a new one is apart from them when it has taken a place
apart_in_place : (x old new : Fields) (rules : List Fields) → AreApart x rules → same x new ≡ false → AreApart x (in_place old new rules)
apart_in_place x old new [] apart e = tt
apart_in_place x old new (y ∷ rules) apart e = (by (same old y), apart_in_place x old new rules apart.1 e)
  where
    by : (b : Bool) → same x (if b then new else y) ≡ false
    by true = e
    by false = apart.0

distinct_in_place : (old new : Fields) (rules : List Fields) → IsDistinct same rules → AreApart new rules → IsDistinct same (in_place old new rules)
unfolding IsDistinct
distinct_in_place old new [] distinct apart = tt
distinct_in_place old new (x ∷ rules) distinct apart = (by (same old x) refl, distinct_in_place old new rules distinct.1 apart.1)
  where
    by : (b : Bool) → same old x ≡ b → AreApart (if b then new else x) (in_place old new rules)
    by true e = subst (AreApart new) (sym (renamed-absent same old new rules (apart_from same same-Decides old x rules e distinct.0))) apart.1
    by false e = apart_in_place x old new rules distinct.0 (same_symm x new ∙ apart.0)

-- a new rule that is absent for an old one leaves distinct rules
pub distinct_replaced : (ranked : Bool) (old new : Fields) (rules : List Fields) → IsDistinct same rules → stands new rules ≡ false → IsDistinct same (replaced ranked old new rules)
distinct_replaced ranked old new rules distinct absent = by (ranked && not (is_level old new))
  where
    still : stands new (without old rules) ≡ false
    still = stands-without new old rules ∙ ap (λ (b : Bool). b && not (same old new)) absent

    by : (b : Bool) → IsDistinct same (if b then ranked_in new (without old rules) else in_place old new rules)
    by true = distinct_inserted true new (without old rules) (distinct_filter (λ (other : Fields). not (same old other)) rules distinct) still
    by false = distinct_in_place old new rules distinct (apart_absent new rules absent)

-- there is one rule more
pub length-inserted : (ranked : Bool) (rule : Fields) (rules : List Fields) → length (inserted ranked rule rules) ≡ length rules + 1
length-inserted ranked rule rules = length_permutation (rule ∷ rules) (inserted ranked rule rules) (inserted-IsPermutation ranked rule rules) ∙ omega arith

-- of distinct rules one goes
pub length-without : (rule : Fields) (rules : List Fields) → IsDistinct same rules → stands rule rules ≡ true → length (without rule rules) + 1 ≡ length rules
unfolding IsDistinct
length-without rule [] distinct some = absurd (true≢false (sym some))
length-without rule (x ∷ rules) distinct some = by (same rule x) refl some (λ is. length-without rule rules distinct.1 is)
  where
    by : (b : Bool) → same rule x ≡ b → (b || stands rule rules) ≡ true → (stands rule rules ≡ true → length (without rule rules) + 1 ≡ length rules)
        → length (cond (not b) (x ∷ without rule rules) (without rule rules)) + 1 ≡ length (x ∷ rules)
    by true e is rest = omega (arith, ap length (without-absent same rule rules (apart_from same same-Decides rule x rules e distinct.0)))
    by false e is rest = omega (arith, rest is)

-- and none more or less where a new one is there for an old one
pub length-replaced : (ranked : Bool) (old new : Fields) (rules : List Fields) → IsDistinct same rules → stands old rules ≡ true → length (replaced ranked old new rules) ≡ length rules
length-replaced ranked old new rules distinct some = by (ranked && not (is_level old new))
  where
    by : (b : Bool) → length (if b then ranked_in new (without old rules) else in_place old new rules) ≡ length rules
    by true = length-inserted true new (without old rules) ∙ length-without old rules distinct some
    by false = length-map rules (λ (other : Fields). if same old other then new else other)

-- the change puts a rule into its table and takes none out
abbrev pub is_insert : Change → Bool
is_insert (Insert table rule) = true
is_insert (Remove table rule) = false
is_insert (Replace table old new) = false

-- the change takes a rule out and puts none in
abbrev pub is_remove : Change → Bool
is_remove (Insert table rule) = false
is_remove (Remove table rule) = true
is_remove (Replace table old new) = false

absent_of : (b : Bool) → not b ≡ true → b ≡ false
absent_of true e = absurd (true≢false (sym e))
absent_of false e = refl

-- how many rules there are after a change that suits them
pub length-changed : (ranked : Bool) (change : Change) (rules : List Fields) → IsDistinct same rules → suits change rules ≡ true
    → length (changed_rules ranked change rules) + cond (is_remove change) 1 0 ≡ length rules + cond (is_insert change) 1 0
length-changed ranked (Insert table rule) rules distinct fits = omega (arith, length-inserted ranked rule rules)
length-changed ranked (Remove table rule) rules distinct fits = omega (arith, length-without rule rules distinct fits)
length-changed ranked (Replace table old new) rules distinct fits =
    omega (arith, length-replaced ranked old new rules distinct (and_parts (stands old rules) (not (stands new rules)) fits).0)

-- and none stands twice
pub distinct_changed : (ranked : Bool) (change : Change) (rules : List Fields) → IsDistinct same rules → suits change rules ≡ true → IsDistinct same (changed_rules ranked change rules)
distinct_changed ranked (Insert table rule) rules distinct fits = distinct_inserted ranked rule rules distinct (absent_of _ fits)
distinct_changed ranked (Remove table rule) rules distinct fits = distinct_filter (λ (other : Fields). not (same rule other)) rules distinct
distinct_changed ranked (Replace table old new) rules distinct fits =
    distinct_replaced ranked old new rules distinct (absent_of _ (and_parts (stands old rules) (not (stands new rules)) fits).1)

-- a change makes a table longer by one rule at most
pub one_longer : (ranked : Bool) (change : Change) (rules : List Fields) → length (changed_rules ranked change rules) ≤ length rules + 1
one_longer ranked (Insert table rule) rules = omega (arith, length-inserted ranked rule rules)
one_longer ranked (Remove table rule) rules = fits (fewer (λ (other : Fields). not (same rule other)) rules)
  where
    fits : {n m : ℕ} → n ≤ m → n ≤ m + 1
    fits le = omega (arith, le)
one_longer ranked (Replace table old new) rules = by (ranked && not (is_level old new))
  where
    by : (b : Bool) → length (if b then ranked_in new (without old rules) else in_place old new rules) ≤ length rules + 1
    by true = omega (arith, length-inserted true new (without old rules), fewer (λ (other : Fields). not (same old other)) rules)
    by false = omega (arith, length-map rules (λ (other : Fields). if same old other then new else other))

-- the tables after a change, where its table is not full
pub changed_few : (change : Change) (policy : Policy) → AreLists policy.lists → length (rows policy (table_of change)) + 1 < 2 ^ 32 → AreLists (changed change policy).lists
changed_few change policy are few = by (place (table_of change))
  where
    new : List Fields
    new = changed_rules (is_ranked policy (table_of change)) change (rows policy (table_of change))

    by : (p : Option ℕ) → AreLists (option_map_or (λ at. set policy.lists at new) p policy.lists)
    by None = are
    by (Some at) = record {
      counted = length-set policy.lists at _ ∙ are.counted;
      few = All-set (λ (rules : List Fields). length rules < 2 ^ 32) policy.lists at _
          (omega (arith, few, one_longer (is_ranked policy (table_of change)) change (rows policy (table_of change)))) are.few;
    }
