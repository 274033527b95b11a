-- Lists of rules that are gone through one after the other, and the changes that are made of them.
use Rattle.std.proofs.Common.{◌≡◌, ℕ, suc, ◌+◌, Bool, true, false, not, ◌||◌, ◌&&◌, cond, eqb, if◌then◌else◌, refl, sym, ap, ◌∙◌, true≢false, arith}
use Rattle.std.proofs.Common.{List, [], ◌∷◌, ◌++◌, length, take, drop, map, filter, slice_get, Option, Some, All, append_assoc}
use Rattle.std.proofs.Math.Bool.{and-false, not-not, or-true}
use Rattle.std.proofs.lemmas.Bool.{or_parts}
use Rattle.std.proofs.lemmas.Bool.Decides.{nat_tests}
use Rattle.std.proofs.lemmas.Cmp.{lists_equiv, nat_list_eq_equiv}
use Rattle.std.proofs.lemmas.List.{append-nil, map_push, take_more, take-append-drop, drop_more}
use Rattle.std.proofs.lemmas.List.Elements.{All-contains, filter-append}
use Rattle.std.proofs.lemmas.List.Folds.{list_any-append}
use Rattle.std.proofs.lemmas.Map.Views.{Contains-from_any, any-filter_same}
use Rattle.std.proofs.lemmas.Option.{get_or_from_slice_get, slice_get_within}
use Rattle.std.specs.List.{list_any}
use Rattle.policy_table.specs.Tables.{Fields, same, stands}
use Rattle.policy_table.specs.declared.change.Change.{Change}
use Rattle.edit_calls.specs.Edits.{has_repeat, is_empty, unless}
use Rattle.policy_table.proofs.CallerLemmas.{same-Decides}

module _ {X : Type 0} (items : List X) (at : ℕ) (item : X) (here : slice_get items at ≡ Some item) where
  -- the items in front and one more
  pub taken : take (at + 1) items ≡ take at items ++ item ∷ []
  taken = take_more items at item (slice_get_within items at item here) ∙ ap (λ x. take at items ++ x ∷ []) (get_or_from_slice_get items at item item here)

  -- the item at a place is the first of those that are left there
  pub left : drop at items ≡ item ∷ drop (at + 1) items
  left = drop_more items at item (slice_get_within items at item here) ∙ ap (λ x. x ∷ drop (at + 1) items) (get_or_from_slice_get items at item item here)

  module _ (test : X → Bool) where
    -- where what is left decides, an item that passes decides
    pub any_here : list_any test items ≡ list_any test (drop at items) → test item ≡ true → true ≡ list_any test items
    any_here decides passes = sym (decides ∙ ap (list_any test) left ∙ ap (λ b. b || list_any test (drop (at + 1) items)) passes)

    -- and one that does not pass leaves it to the others
    pub any_next : list_any test items ≡ list_any test (drop at items) → test item ≡ false → list_any test items ≡ list_any test (drop (at + 1) items)
    any_next decides fails = decides ∙ ap (list_any test) left ∙ ap (λ b. b || list_any test (drop (at + 1) items)) fails

    -- those that pass, and the item by its test
    filter_more : filter test (take (at + 1) items) ≡ filter test (take at items) ++ cond (test item) (item ∷ []) []
    filter_more = ap (filter test) taken ∙ filter-append test (take at items) (item ∷ [])

    -- an item that passes goes behind those that did
    filter_next : test item ≡ true → filter test (take (at + 1) items) ≡ filter test (take at items) ++ item ∷ []
    filter_next passes = filter_more ∙ ap (λ b. filter test (take at items) ++ cond b (item ∷ []) []) passes

    -- and one that does not adds nothing
    filter_same : test item ≡ false → filter test (take (at + 1) items) ≡ filter test (take at items)
    filter_same fails = filter_more ∙ ap (λ b. filter test (take at items) ++ cond b (item ∷ []) []) fails ∙ append-nil (filter test (take at items))

  -- what is made of the items grows by what is made of one more
  pub made_next : {Y : Type 0} (f : X → Y) (before old new : List Y) → old ≡ before ++ map f (take at items) → new ≡ old ++ f item ∷ [] → new ≡ before ++ map f (take (at + 1) items)
  made_next f before old new made pushed =
      pushed ∙ ap (λ l. l ++ f item ∷ []) made ∙ append_assoc before (map f (take at items)) (f item ∷ [])
      ∙ ap (λ l. before ++ l) (sym (ap (map f) taken ∙ map_push f (take at items) item))

  module _ {Y : Type 0} (test : X → Bool) (f : X → Y) (before old : List Y) (made : old ≡ before ++ map f (filter test (take at items))) where
    -- what is made of those that pass grows by what is made of one more that passes
    pub passed_next : (new : List Y) → test item ≡ true → new ≡ old ++ f item ∷ [] → new ≡ before ++ map f (filter test (take (at + 1) items))
    passed_next new passes pushed =
        pushed ∙ ap (λ l. l ++ f item ∷ []) made ∙ append_assoc before (map f (filter test (take at items))) (f item ∷ [])
        ∙ ap (λ l. before ++ l) (sym (ap (map f) (filter_next test passes) ∙ map_push f (filter test (take at items)) item))

    -- and stays as it is at one that does not
    pub passed_same : (new : List Y) → test item ≡ false → new ≡ old → new ≡ before ++ map f (filter test (take (at + 1) items))
    passed_same new fails same = same ∙ made ∙ ap (λ l. before ++ map f l) (sym (filter_same test fails))

-- a rule that stands meets what each of the rules meets
pub met_by_one : (P : Fields → Type 0) (rule : Fields) (rules : List Fields) → All P rules → stands rule rules ≡ true → P rule
met_by_one P rule rules all there = All-contains P rules rule all (Contains-from_any (λ x y. (same-Decides x y).0) rule rules there)

-- a rule stands among those that pass where it stands and passes
stands_passing : (test : Fields → Bool) (rule : Fields) (rules : List Fields) → stands rule (filter test rules) ≡ (test rule && stands rule rules)
stands_passing test rule rules = any-filter_same (same rule) test (test rule) (λ other e. ap test (sym ((same-Decides rule other).0 e))) rules

module _ (test : Fields → Bool) (rule : Fields) (rules : List Fields) where
  -- one that stands and passes
  pub passes_there : stands rule rules ≡ true → test rule ≡ true → stands rule (filter test rules) ≡ true
  passes_there there passes = stands_passing test rule rules ∙ (λ j. passes j && there j)

  -- one that does not pass
  pub fails_there : test rule ≡ false → stands rule (filter test rules) ≡ false
  fails_there fails = stands_passing test rule rules ∙ ap (λ b. b && stands rule rules) fails

  -- one that is absent
  pub absent_there : stands rule rules ≡ false → stands rule (filter test rules) ≡ false
  absent_there absent = stands_passing test rule rules ∙ ap (λ b. test rule && b) absent ∙ and-false (test rule)

-- a rule stands among others and one more
among_more : (rule other : Fields) (front back : List Fields) → stands rule (front ++ other ∷ back) ≡ (stands rule front || (same other rule || stands rule back))
among_more rule other front back =
    list_any-append (same rule) front (other ∷ back) ∙ ap (λ b. stands rule front || (b || stands rule back)) ((lists_equiv nat_list_eq_equiv).symm rule other)

-- a rule that stands before itself is named twice
repeat_here : (front back : List Fields) (rule : Fields) → stands rule front ≡ true → has_repeat (front ++ rule ∷ back) ≡ true
unfolding has_repeat
repeat_here [] back rule there = absurd (true≢false (sym there))
repeat_here (first ∷ front) back rule there = by (same rule first) refl (repeat_here front back rule)
  where
    all : List Fields
    all = front ++ rule ∷ back

    by : (test : Bool) → same rule first ≡ test → (stands rule front ≡ true → has_repeat all ≡ true) → (stands first all || has_repeat all) ≡ true
    by true e rest = ap (λ b. b || has_repeat all) (among_more first rule front back ∙ ap (λ b. stands first front || (b || stands first back)) e ∙ or-true (stands first front))
    by false e rest = ap (λ b. stands first all || b) (rest (ap (λ b. b || stands rule front) (sym e) ∙ there)) ∙ or-true (stands first all)

-- and behind rules that are named once, one that does not stand there is named once too
repeat_none : (front : List Fields) (rule : Fields) → has_repeat front ≡ false → stands rule front ≡ false → has_repeat (front ++ rule ∷ []) ≡ false
unfolding has_repeat
repeat_none [] rule once absent = refl
repeat_none (first ∷ front) rule once absent =
    let alone = or_parts (stands first front) (has_repeat front) once in
    let apart = or_parts (same rule first) (stands rule front) absent in
    let here : stands first (front ++ rule ∷ []) ≡ false = among_more first rule front [] ∙ (λ j. alone.0 j || (apart.0 j || false)) in
    λ j. here j || repeat_none front rule alone.1 apart.1 j

-- no rule of none is named twice
pub repeat_empty : has_repeat [] ≡ false
unfolding has_repeat
repeat_empty = refl

-- the rules in front of a place were seen, and whether the one there was new is told
module _ (rules seen : List Fields) (at : ℕ) (rule : Fields) (added : Bool)
    (here : slice_get rules at ≡ Some rule) (front : seen ≡ take at rules) (told : added ≡ not (stands rule seen)) where
  -- whether the rule stood before
  stood : (b : Bool) → added ≡ b → stands rule (take at rules) ≡ not b
  stood b e = ap (stands rule) (sym front) ∙ sym (not-not (stands rule seen)) ∙ ap not (sym told ∙ e)

  -- a rule that is not new is named twice
  pub repeat_found : added ≡ false → true ≡ has_repeat rules
  repeat_found old =
      let parts = sym (take-append-drop at rules) ∙ ap (λ l. take at rules ++ l) (left rules at rule here) in
      sym (ap has_repeat parts ∙ repeat_here (take at rules) (drop (at + 1) rules) rule (stood false old))

  -- a new one goes behind those before it
  pub seen_next : (now : List Fields) → added ≡ true → now ≡ (if stands rule seen then seen else seen ++ rule ∷ []) → now ≡ take (at + 1) rules
  seen_next now new inserted =
      inserted ∙ ap (λ b. if b then seen else seen ++ rule ∷ []) (ap (stands rule) front ∙ stood true new) ∙ ap (λ l. l ++ rule ∷ []) front ∙ sym (taken rules at rule here)

  -- and none of those is named twice
  pub once_next : added ≡ true → has_repeat (take at rules) ≡ false → has_repeat (take (at + 1) rules) ≡ false
  once_next new once = ap has_repeat (taken rules at rule here) ∙ repeat_none (take at rules) rule once (stood true new)

-- one more than a number is not zero
not_zero : (n : ℕ) → eqb (suc n) 0 ≡ false
not_zero n = grind (arith, nat_tests)

module _ {X Y : Type 0} (test : X → Bool) (f : X → Y) where
  -- nothing is made where no item passes
  made_of_none : (items : List X) → is_empty (map f (filter test items)) ≡ not (list_any test items)
  made_of_none [] = refl
  made_of_none (item ∷ items) = by (test item) refl (made_of_none items)
    where
      by : (b : Bool) → test item ≡ b → is_empty (map f (filter test items)) ≡ not (list_any test items)
          → is_empty (map f (cond b (item ∷ filter test items) (filter test items))) ≡ not (b || list_any test items)
      by true e rest = not_zero (length (map f (filter test items)))
      by false e rest = rest

-- the changes by the rules that pass, unless there are none
pub unless_none : (test : Fields → Bool) (f : Fields → Change) (rules : List Fields) (repeat : Bool) (changes : List Change) (edit : Option (List Change))
    → repeat ≡ false → changes ≡ map f (filter test rules) → edit ≡ unless (is_empty changes) changes
    → edit ≡ unless (repeat || not (list_any test rules)) (map f (filter test rules))
unless_none test f rules repeat changes edit once made says =
    let nothing : is_empty (map f (filter test rules)) ≡ (repeat || not (list_any test rules)) = made_of_none test f rules ∙ ap (λ b. b || not (list_any test rules)) (sym once) in
    says ∙ ap (λ l. unless (is_empty l) l) made ∙ ap (λ b. unless b (map f (filter test rules))) nothing
