-- How many rows pass a test.
use Rattle.std.proofs.Common.{◌≡◌, ◌⊎◌, inl, inr, ◌≤◌, ◌+◌, ℕ, Bool, true, false, not, ◌&&◌, ◌||◌, cond, List, [], ◌∷◌, ◌++◌, filter, length, map, refl, sym, ap, subst, ◌∙◌, arith}
use Rattle.std.specs.List.{AllByRecursion, Contains, IsDistinct, count_by}
use Rattle.std.proofs.lemmas.Bool.{false≢true}
use Rattle.std.proofs.lemmas.List.{length-map}
use Rattle.std.proofs.lemmas.List.Sums.{length-filter, sum_by-append, sum_by-cons, sum_by-le-sum_by}
use Rattle.policy_table.specs.Tables.{Fields, same, stands}
use Rattle.policy_table.proofs.CallerLemmas.{same-Decides}
use Rattle.role_domain.specs.Relations.{counted, pair_of}
use Rattle.role_graph.specs.Groups.{times}
use Rattle.role_graph.proofs.CallerLemmas.{as_long, once, parted, same_itself, times_first}
use Rattle.role_meaning.specs.Links.{domain_of}
use Rattle.role_meaning.proofs.CallerLemmas.{stands_behind, stands_cases, stands_here, stands_nowhere}

pub count_first : {X : Type 0} (test : X → Bool) (x : X) (xs : List X) → count_by test (x ∷ xs) ≡ once (test x) + count_by test xs
count_first {X} test x xs = sum_by-cons (λ (y : X). once (test y)) x xs

pub count_both : {X : Type 0} (test : X → Bool) (xs ys : List X) → count_by test (xs ++ ys) ≡ count_by test xs + count_by test ys
count_both {X} test xs ys = sum_by-append (λ (y : X). once (test y)) xs ys

pub count_more : {X : Type 0} (test : X → Bool) (xs : List X) (x : X) → count_by test (xs ++ x ∷ []) ≡ count_by test xs + once (test x)
count_more test xs x = let both = count_both test xs (x ∷ []) in omega (arith, both, count_first test x [])

-- lists in which each row stands as often pass a test as often
pub count_alike : (test : Fields → Bool) (rows others : List Fields) → ((one : Fields) → times one rows ≡ times one others) → count_by test rows ≡ count_by test others
count_alike test [] [] equal = refl
count_alike test [] (other ∷ others) equal =
    absurd (let none : 0 ≡ once (same other other) + times other others = equal other ∙ times_first other other others in let here : once (same other other) ≡ 1 = ap once (same_itself other) in omega (arith, none, here))
count_alike test (one ∷ rows) others equal =
    let p = parted one rows others equal in
    let fewer : count_by test rows ≡ count_by test p.left = count_alike test rows p.left p.alike in
    let left : count_by test p.left ≡ count_by test p.front + count_by test p.back = ap (count_by test) p.is ∙ count_both test p.front p.back in
    let all : count_by test others ≡ count_by test p.front + count_by test (one ∷ p.back) = ap (count_by test) p.parts ∙ count_both test p.front (one ∷ p.back) in
    omega (arith, fewer, left, all, count_first test one rows, count_first test one p.back)

-- two tests that agree count alike
pub count_agree : {X : Type 0} (test other : X → Bool) (xs : List X) → ((x : X) → test x ≡ other x) → count_by test xs ≡ count_by other xs
count_agree {X} test other xs agree = λ j. count_by (λ (x : X). agree x j) xs

-- where they agree at least on what stands there
pub count_agree_on : {X : Type 0} (test other : X → Bool) (xs : List X) → ((x : X) → Contains xs x → test x ≡ other x) → count_by test xs ≡ count_by other xs
count_agree_on test other [] agree = refl
count_agree_on test other (x ∷ xs) agree =
    let rest : count_by test xs ≡ count_by other xs = count_agree_on test other xs (λ y stands. agree y (stands_behind x xs y stands)) in
    let here : once (test x) ≡ once (other x) = ap once (agree x (stands_here x xs)) in
    omega (arith, rest, here, count_first test x xs, count_first other x xs)

once_less : (b c : Bool) → (b ≡ true → c ≡ true) → once b ≤ once c
once_less true true less = omega arith
once_less true false less = absurd (false≢true (less refl))
once_less false c less = omega arith

-- a weaker test passes no less
pub count_weaker : {X : Type 0} (test weaker : X → Bool) (xs : List X) → ((x : X) → test x ≡ true → weaker x ≡ true) → count_by test xs ≤ count_by weaker xs
count_weaker {X} test weaker xs less = sum_by-le-sum_by (λ (x : X). once (test x)) (λ (x : X). once (weaker x)) xs (λ x. once_less (test x) (weaker x) (less x))

-- those that a filter leaves
pub count_filter : {X : Type 0} (test kept : X → Bool) (xs : List X) → count_by test (filter kept xs) ≡ count_by (λ (x : X). kept x && test x) xs
count_filter test kept [] = refl
count_filter {X} test kept (x ∷ xs) = by (kept x) refl (count_filter test kept xs)
  where
    by : (b : Bool) → kept x ≡ b → count_by test (filter kept xs) ≡ count_by (λ (y : X). kept y && test y) xs → count_by test (cond b (x ∷ filter kept xs) (filter kept xs)) ≡ count_by (λ (y : X). kept y && test y) (x ∷ xs)
    by true is rest =
        let here : once (kept x && test x) ≡ once (test x) = ap (λ (b : Bool). once (b && test x)) is in
        omega (arith, rest, here, count_first test x (filter kept xs), count_first (λ (y : X). kept y && test y) x xs)
    by false is rest =
        let here : once (kept x && test x) ≡ 0 = ap (λ (b : Bool). once (b && test x)) is in
        omega (arith, rest, here, count_first (λ (y : X). kept y && test y) x xs)

-- those that pass a part and those that do not
pub count_split : {X : Type 0} (part test : X → Bool) (xs : List X) → count_by test xs ≡ count_by (λ (x : X). part x && test x) xs + count_by (λ (x : X). not (part x) && test x) xs
count_split part test [] = refl
count_split {X} part test (x ∷ xs) =
    omega (
      arith,
      count_split part test xs,
      by (part x) (test x),
      count_first test x xs,
      count_first (λ (y : X). part y && test y) x xs,
      count_first (λ (y : X). not (part y) && test y) x xs,
    )
  where
    by : (p t : Bool) → once t ≡ once (p && t) + once (not p && t)
    by true true = refl
    by true false = refl
    by false true = refl
    by false false = refl

-- one that passes
pub record Passes (test : Fields → Bool) (rows : List Fields) : Type 0 where
  pub row : Fields
  pub stands : Contains rows row
  pub passes : test row ≡ true

pub some_passes : (test : Fields → Bool) (rows : List Fields) → 1 ≤ count_by test rows → Passes test rows
some_passes test [] some = absurd (omega arith)
some_passes test (first ∷ rows) some = by (test first) refl (some_passes test rows)
  where
    by : (b : Bool) → test first ≡ b → (1 ≤ count_by test rows → Passes test rows) → Passes test (first ∷ rows)
    by true is more = record { row = first; stands = stands_here first rows; passes = is }
    by false is more =
        let found = more (let e : once (test first) ≡ 0 = ap once is in omega (arith, e, some, count_first test first rows)) in
        record { row = found.row; stands = stands_behind first rows found.row found.stands; passes = found.passes }

pub passing_counts : (test : Fields → Bool) (rows : List Fields) (row : Fields) → Contains rows row → test row ≡ true → 1 ≤ count_by test rows
passing_counts test [] row none passes = absurd (stands_nowhere row none)
passing_counts test (first ∷ rows) row stands passes = by (stands_cases first rows row stands) (passing_counts test rows row)
  where
    by : (first ≡ row) ⊎ Contains rows row → (Contains rows row → test row ≡ true → 1 ≤ count_by test rows) → 1 ≤ count_by test (first ∷ rows)
    by (inl same) more =
        let here : once (test first) ≡ 1 = ap once (ap test same ∙ passes) in
        omega (arith, here, count_first test first rows)
    by (inr behind) more = let rest = more behind passes in omega (arith, rest, count_first test first rows)

-- the users and roles of the rows whose domain passes a test
abbrev pub pairs_of : (List ℕ → Bool) → List Fields → List Fields
pairs_of test rows = map pair_of (filter (λ (row : Fields). test (domain_of row)) rows)

pub times_pairs : (test : List ℕ → Bool) (one : Fields) (rows : List Fields) → times one (pairs_of test rows) ≡ counted test one rows
times_pairs test one [] = refl
times_pairs test one (row ∷ rows) = by (test (domain_of row)) refl (times_pairs test one rows)
  where
    by : (b : Bool) → test (domain_of row) ≡ b → times one (pairs_of test rows) ≡ counted test one rows → times one (map pair_of (cond b (row ∷ filter (λ (r : Fields). test (domain_of r)) rows) (filter (λ (r : Fields). test (domain_of r)) rows))) ≡ counted test one (row ∷ rows)
    by true is rest =
        let here : once (test (domain_of row) && same one (pair_of row)) ≡ once (same one (pair_of row)) = ap (λ (b : Bool). once (b && same one (pair_of row))) is in
        omega (arith, rest, here, times_first one (pair_of row) (pairs_of test rows), count_first (λ (r : Fields). test (domain_of r) && same one (pair_of r)) row rows)
    by false is rest =
        let here : once (test (domain_of row) && same one (pair_of row)) ≡ 0 = ap (λ (b : Bool). once (b && same one (pair_of row))) is in
        omega (arith, rest, here, count_first (λ (r : Fields). test (domain_of r) && same one (pair_of r)) row rows)

-- a list of the users and roles of these rows is as long as they are many
pub counted_long : (test : List ℕ → Bool) (pairs rows : List Fields) → ((one : Fields) → times one pairs ≡ counted test one rows) → length pairs ≡ count_by (λ (row : Fields). test (domain_of row)) rows
counted_long test pairs rows is =
    as_long pairs (pairs_of test rows) (λ one. is one ∙ sym (times_pairs test one rows))
    ∙ length-map (filter (λ (row : Fields). test (domain_of row)) rows) pair_of
    ∙ length-filter (λ (row : Fields). test (domain_of row)) rows

none_times : (one : Fields) (rows : List Fields) → AllByRecursion (λ (other : Fields). same one other ≡ false) rows → times one rows ≡ 0
none_times one [] all = refl
none_times one (row ∷ rows) all =
    let here : once (same one row) ≡ 0 = ap once all.0 in
    omega (arith, here, none_times one rows all.1, times_first one row rows)

-- where no row stands twice, it stands once or not at all
pub times_distinct : (one : Fields) (rows : List Fields) → IsDistinct same rows → times one rows ≡ once (stands one rows)
unfolding IsDistinct
times_distinct one [] distinct = refl
times_distinct one (row ∷ rows) distinct = by (same one row) refl (times_distinct one rows distinct.1)
  where
    by : (b : Bool) → same one row ≡ b → times one rows ≡ once (stands one rows) → times one (row ∷ rows) ≡ once (b || stands one rows)
    by true is rest =
        let here : once (same one row) ≡ 1 = ap once is in
        let none : times one rows ≡ 0 = subst (λ (r : Fields). times r rows ≡ 0) (sym ((same-Decides one row).0 is)) (none_times row rows distinct.0) in
        omega (arith, here, none, times_first one row rows)
    by false is rest =
        let here : once (same one row) ≡ 0 = ap once is in
        omega (arith, here, rest, times_first one row rows)

-- all pass a test that is always true
pub count_all : {X : Type 0} (xs : List X) → count_by (λ (x : X). true) xs ≡ length xs
count_all [] = refl
count_all {X} (x ∷ xs) = let rest : count_by (λ (y : X). true) xs ≡ length xs = count_all xs in omega (arith, rest, count_first (λ (y : X). true) x xs)

-- and those of a list that is made of another
pub count_map : {X Y : Type 0} (test : Y → Bool) (f : X → Y) (xs : List X) → count_by test (map f xs) ≡ count_by (λ (x : X). test (f x)) xs
count_map test f [] = refl
count_map {X} test f (x ∷ xs) = let rest : count_by test (map f xs) ≡ count_by (λ (y : X). test (f y)) xs = count_map test f xs in omega (arith, rest, count_first test (f x) (map f xs), count_first (λ (y : X). test (f y)) x xs)

pub count_nothing : {X : Type 0} (test : X → Bool) (xs : List X) → ((x : X) → test x ≡ false) → count_by test xs ≡ 0
count_nothing test [] none = refl
count_nothing test (x ∷ xs) none =
    let rest : count_by test xs ≡ 0 = count_nothing test xs none in
    let here : once (test x) ≡ 0 = ap once (none x) in
    omega (arith, rest, here, count_first test x xs)
