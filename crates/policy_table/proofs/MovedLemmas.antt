-- The domains that changes put into a table and take out of it.
use Rattle.std.proofs.Common.{◌≡◌, ℕ, ◌+◌, ◌-◌, ◌<◌, ◌≤◌, ◌^◌, Bool, true, false, not, ◌&&◌, eqb, cond, if◌then◌else◌, List, [], ◌∷◌, ◌++◌, length, filter, take, get_or, Option, Some, None, refl, sym, ap, subst, ◌∙◌, arith}
use Rattle.std.specs.Prelude.{nat_lt}
use mir.Val.{bool_byte}
use Rattle.std.specs.List.{IsDistinct, count_by, flat_map, list_any, sum_by}
use Rattle.std.specs.Map.{keys_of}
use Rattle.std.specs.Option.{option_map_or}
use Rattle.std.specs.Str.{bytes_eq}
use Rattle.std.proofs.lemmas.Bool.Decides.{nat_tests}
use Rattle.std.proofs.lemmas.Cmp.{nat_list_eq_equiv}
use Rattle.std.proofs.lemmas.List.{length-append, length-map}
use Rattle.std.proofs.lemmas.List.Filters.{length-filter_both}
use Rattle.std.proofs.lemmas.List.Sums.{count_by-le-length, length-filter, sum_by-append, sum_by-cons, sum_by_more}
use Rattle.std.proofs.lemmas.Map.Made.{is_member-filter, length-from_same_keys}
use Rattle.std.proofs.lemmas.Slice.Eq.{bytes_eq-Decides}
use Rattle.perm_base.specs.Patterns.{is_pattern}
use Rattle.perm_base.specs.declared.shapes.Fit.{Fit}
use Rattle.perm_base.specs.declared.shapes.RoleShape.{RoleShape}
use Rattle.perm_base.specs.declared.shapes.TableId.TheVariants.{G}
use Rattle.perm_base.specs.declared.shapes.TableId.{TableId}
use Rattle.policy_table.specs.Changes.{applies, edited, is_table, table_of}
use Rattle.policy_table.specs.Helps.Counts.{pairs_of, patterns_of, put_by, taken_by}
use Rattle.policy_table.specs.Helps.Domains.{AreCounted, Counted, HasNoZero, count_of, domain_of, pattern_count}
use Rattle.policy_table.specs.Helps.Moves.{is_gone, is_new, moved, moved_domains}
use Rattle.policy_table.specs.Limits.{different, domains_of}
use Rattle.policy_table.specs.Tables.{AreLists, AreOrdered, Fields, IsKept, Policy, place, rows}
use Rattle.policy_table.specs.declared.change.Change.{Change}
use Rattle.policy_table.specs.declared.change.Change.TheVariants.{Insert, Remove, Replace}
use Rattle.policy_table.specs.declared.moved.Way.{Way}
use Rattle.policy_table.specs.declared.moved.Way.TheVariants.{In, Out}
use Rattle.policy_table.proofs.CountedLemmas.{count_both, domains_sum, one}
use Rattle.policy_table.proofs.DomainLemmas.{among_different, among_keys, any_counted, distinct_different, recounted}
use Rattle.policy_table.proofs.LawLemmas.{order_of}
use Rattle.policy_table.proofs.LimitLemmas.{different_few, passing_few}
use Rattle.policy_table.proofs.PlaceLemmas.{place_few}
use Rattle.policy_table.proofs.RowLemmas.{distinct_passing}
use Rattle.policy_table.proofs.SumLemmas.{sum_edited}

-- a sum over all that is moved is a sum over the changes
moved_sum : (f : Fields → ℕ) (g : Change → List Fields) (changes : List Change) → sum_by f (flat_map g changes) ≡ sum_by (λ (c : Change). sum_by f (g c)) changes
moved_sum f g [] = refl
moved_sum f g (change ∷ changes) =
    sum_by-append f (g change) (flat_map g changes) ∙ ap (λ n. sum_by f (g change) + n) (moved_sum f g changes) ∙ sym (sum_by-cons (λ (c : Change). sum_by f (g c)) change changes)

-- a change moves one rule at most
one_each : (b : Bool) (c : Change) → (length (if b then put_by c else []) ≤ 1) × (length (if b then taken_by c else []) ≤ 1)
one_each true (Insert there rule) = (omega arith, omega arith)
one_each true (Remove there rule) = (omega arith, omega arith)
one_each true (Replace there old new) = (omega arith, omega arith)
one_each false c = (omega arith, omega arith)

one_moved : (way : Way) (table : TableId) (change : Change) → length (moved way table change) ≤ 1
one_moved In table change = (one_each (is_table table (table_of change)) change).0
one_moved Out table change = (one_each (is_table table (table_of change)) change).1

-- one text more passes or does not
pub count_more : {X : Type 0} (p : X → Bool) (xs : List X) (i : ℕ) (x : X) (b : Bool) (count more : ℕ) → i < length xs → x ≡ get_or xs i x → more ≡ bool_byte b → b ≡ p x → count ≡ count_by p (take i xs) → count + more ≡ count_by p (take (i + 1) xs)
count_more {X} p xs i x b count more within here told passes so_far =
    let one : more ≡ cond {A = ℕ} (p x) 1 0 = byte b told ∙ ap (λ (c : Bool). cond {A = ℕ} c 1 0) passes in
    omega (arith, one, so_far, sum_by_more (λ (y : X). cond {A = ℕ} (p y) 1 0) xs i x within, ap (λ (y : X). cond {A = ℕ} (p y) 1 0) here)
  where
    byte : (b : Bool) → more ≡ bool_byte b → more ≡ cond {A = ℕ} b 1 0
    byte true e = e
    byte false e = e

-- and that is one at most
pub byte_few : (b : Bool) (more : ℕ) → more ≡ bool_byte b → more ≤ 1
byte_few true more e = omega (arith, e)
byte_few false more e = omega (arith, e)

-- changes move no more rules than they are
pub moved_few : (way : Way) (table : TableId) (changes : List Change) → length (flat_map (moved way table) changes) ≤ length changes
moved_few way table [] = omega arith
moved_few way table (change ∷ changes) = omega (arith, length-append (moved way table change) (flat_map (moved way table) changes), one_moved way table change, moved_few way table changes)

-- one change more
pub moved_more : (way : Way) (table : TableId) (changes : List Change) (i : ℕ) (change : Change) (counted : Counted) → i < length changes → change ≡ get_or changes i change
    → AreCounted (domains_of (moved way table change) ++ moved_domains way table (take i changes)) counted → AreCounted (moved_domains way table (take (i + 1) changes)) counted
moved_more way table changes i change counted within here are =
    recounted _ _ counted are
    (λ q.
    let f : Change → ℕ = λ c. sum_by (one q) (moved way table c) in
    omega (
      arith,
      domains_sum q (flat_map (moved way table) (take (i + 1) changes)),
      moved_sum (one q) (moved way table) (take (i + 1) changes),
      sum_by_more f changes i change within,
      ap f here,
      count_both q (domains_of (moved way table change)) (moved_domains way table (take i changes)),
      domains_sum q (moved way table change),
      domains_sum q (flat_map (moved way table) (take i changes)),
      moved_sum (one q) (moved way table) (take i changes),
    ))

-- how many domains pass after an edit
pub counted_after : (q : List ℕ → Bool) (changes : List Change) (policy : Policy) (table : TableId) → AreOrdered policy → applies changes policy ≡ true
    → count_by q (domains_of (rows (edited changes policy) table)) + count_by q (moved_domains Out table changes) ≡ count_by q (domains_of (rows policy table)) + count_by q (moved_domains In table changes)
counted_after q changes policy table order possible =
    omega (
      arith,
      sum_edited (one q) changes policy table order possible,
      domains_sum q (rows (edited changes policy) table),
      domains_sum q (rows policy table),
      domains_sum q (flat_map (moved Out table) changes),
      domains_sum q (flat_map (moved In table) changes),
      moved_sum (one q) (moved Out table) changes,
      moved_sum (one q) (moved In table) changes,
    )

-- whether a text that passes stands
filtered : (test : List ℕ → Bool) (q : List ℕ) (texts : List (List ℕ)) → list_any (bytes_eq q) (filter test texts) ≡ (list_any (bytes_eq q) texts && test q)
filtered test q texts = is_member-filter nat_list_eq_equiv test q (λ x e. ap test ((bytes_eq-Decides q x).0 e)) texts

-- as many pass of one list of distinct texts as of another where the same texts stand and pass
passing_same : (p q : List ℕ → Bool) (first second : List (List ℕ)) → IsDistinct bytes_eq first → IsDistinct bytes_eq second
    → ((text : List ℕ) → (list_any (bytes_eq text) first && p text) ≡ (list_any (bytes_eq text) second && q text)) → length (filter p first) ≡ length (filter q second)
passing_same p q first second once twice same =
    length-from_same_keys nat_list_eq_equiv _ _ (distinct_passing bytes_eq p first once) (distinct_passing bytes_eq q second twice) (λ text. filtered p text first ∙ same text ∙ sym (filtered q text second))

-- the tests of numbers behind what is new, what is gone and what stays
new_test : (a b p t : ℕ) → a + t ≡ b + p → (nat_lt 0 a && not (nat_lt 0 b)) ≡ (nat_lt 0 p && (eqb b 0 && nat_lt t p))
new_test a b p t e = grind (arith, nat_tests)

gone_test : (a b p t : ℕ) → a + t ≡ b + p → (nat_lt 0 b && not (nat_lt 0 a)) ≡ (nat_lt 0 t && (nat_lt 0 b && (not (nat_lt t b) && eqb (t - b) p)))
gone_test a b p t e = grind (arith, nat_tests)

both : (a b : Bool) → (a && b) ≡ (b && a)
both true true = refl
both true false = refl
both false true = refl
both false false = refl

-- how many different texts there are when some are put in and some taken out
pub pairs_changed : (before after put_in taken_out : List (List ℕ)) (put taken : Counted) → AreCounted put_in put → AreCounted taken_out taken
    → IsDistinct bytes_eq (keys_of put.entries) → HasNoZero put.entries → IsDistinct bytes_eq (keys_of taken.entries) → HasNoZero taken.entries
    → ((q : List ℕ → Bool) → count_by q after + count_by q taken_out ≡ count_by q before + count_by q put_in)
    → length (different after) + count_by (is_gone before put taken) (keys_of taken.entries) ≡ length (different before) + count_by (is_new before put taken) (keys_of put.entries)
pairs_changed before after put_in taken_out put taken puts takes put_once put_some taken_once taken_some sums =
    omega (
      arith,
      new,
      gone,
      stay,
      length-filter_both (stands_in before) (λ k. not (stands_in before k)) (λ x. refl) (different after),
      length-filter_both (stands_in after) (λ k. not (stands_in after k)) (λ x. refl) (different before),
      length-filter (is_new before put taken) (keys_of put.entries),
      length-filter (is_gone before put taken) (keys_of taken.entries),
    )
  where
    stands_in : List (List ℕ) → List ℕ → Bool
    stands_in texts k = nat_lt 0 (count_by (bytes_eq k) texts)

    among : (texts : List (List ℕ)) (q : List ℕ) → list_any (bytes_eq q) (different texts) ≡ stands_in texts q
    among texts q = among_different q texts ∙ any_counted (bytes_eq q) texts

    moves : (q : List ℕ) → count_by (bytes_eq q) after + count_of taken q ≡ count_by (bytes_eq q) before + count_of put q
    moves q = omega (arith, sums (bytes_eq q), puts.each q, takes.each q)

    new : length (filter (λ k. not (stands_in before k)) (different after)) ≡ length (filter (is_new before put taken) (keys_of put.entries))
    new = passing_same (λ k. not (stands_in before k)) (is_new before put taken) (different after) (keys_of put.entries) (distinct_different after) put_once
        (λ q. ap (λ b. b && not (stands_in before q)) (among after q) ∙ new_test (count_by (bytes_eq q) after) (count_by (bytes_eq q) before) (count_of put q) (count_of taken q) (moves q)
        ∙ sym (ap (λ b. b && is_new before put taken q) (among_keys put.entries put_some q)))

    gone : length (filter (λ k. not (stands_in after k)) (different before)) ≡ length (filter (is_gone before put taken) (keys_of taken.entries))
    gone = passing_same (λ k. not (stands_in after k)) (is_gone before put taken) (different before) (keys_of taken.entries) (distinct_different before) taken_once
        (λ q. ap (λ b. b && not (stands_in after q)) (among before q) ∙ gone_test (count_by (bytes_eq q) after) (count_by (bytes_eq q) before) (count_of put q) (count_of taken q) (moves q)
        ∙ sym (ap (λ b. b && is_gone before put taken q) (among_keys taken.entries taken_some q)))

    stay : length (filter (stands_in before) (different after)) ≡ length (filter (stands_in after) (different before))
    stay = passing_same (stands_in before) (stands_in after) (different after) (different before) (distinct_different after) (distinct_different before)
        (λ q. ap (λ b. b && stands_in before q) (among after q) ∙ both (stands_in after q) (stands_in before q) ∙ sym (ap (λ b. b && stands_in after q) (among before q)))

-- what an edit puts into a relation and takes out of it is counted
pub record AreMoved (changes seen : List Change) (policy : Policy) (number : ℕ) (put taken : Counted) : Type 0 where
  pub order : AreOrdered policy
  pub possible : applies changes policy ≡ true
  pub same : seen ≡ changes
  pub puts : AreCounted (moved_domains In (G number) seen) put
  pub takes : AreCounted (moved_domains Out (G number) seen) taken

-- as its parts tell
pub are_moved : {changes seen : List Change} {policy : Policy} {number : ℕ} {put taken : Counted} → IsKept policy → applies changes policy ≡ true → seen ≡ changes
    → AreCounted (moved_domains In (G number) seen) put → AreCounted (moved_domains Out (G number) seen) taken → AreMoved changes seen policy number put taken
are_moved kept possible same puts takes = record { order = order_of _ kept; possible = possible; same = same; puts = puts; takes = takes }

module _ {changes seen : List Change} {policy : Policy} {number : ℕ} {put taken : Counted} (are : AreMoved changes seen policy number put taken) where
  puts : AreCounted (moved_domains In (G number) changes) put
  puts = subst (λ (l : List Change). AreCounted (moved_domains In (G number) l) put) are.same are.puts

  takes : AreCounted (moved_domains Out (G number) changes) taken
  takes = subst (λ (l : List Change). AreCounted (moved_domains Out (G number) l) taken) are.same are.takes

  -- no more are put in than there are changes
  pub few_put : (fit : Fit) → pattern_count put.patterns fit ≤ length seen
  few_put fit =
      omega (arith, are.puts.patterns fit, count_by-le-length (is_pattern fit) (moved_domains In (G number) seen), length-map (flat_map (moved In (G number)) seen) domain_of, moved_few In (G number) seen)

  -- the patterns after the edit
  pub patterns_after : (fit : Fit) → length (filter (is_pattern fit) (domains_of (rows (edited changes policy) (G number)))) + pattern_count taken.patterns fit
      ≡ length (filter (is_pattern fit) (domains_of (rows policy (G number)))) + pattern_count put.patterns fit
  patterns_after fit =
      omega (
        arith,
        counted_after (is_pattern fit) changes policy (G number) are.order are.possible,
        puts.patterns fit,
        takes.patterns fit,
        length-filter (is_pattern fit) (domains_of (rows (edited changes policy) (G number))),
        length-filter (is_pattern fit) (domains_of (rows policy (G number))),
      )

  -- and the different domains
  pub pairs_after : IsDistinct bytes_eq (keys_of put.entries) → HasNoZero put.entries → IsDistinct bytes_eq (keys_of taken.entries) → HasNoZero taken.entries
      → length (different (domains_of (rows (edited changes policy) (G number)))) + count_by (is_gone (domains_of (rows policy (G number))) put taken) (keys_of taken.entries)
      ≡ length (different (domains_of (rows policy (G number)))) + count_by (is_new (domains_of (rows policy (G number))) put taken) (keys_of put.entries)
  pairs_after put_once put_some taken_once taken_some =
      pairs_changed (domains_of (rows policy (G number))) (domains_of (rows (edited changes policy) (G number))) _ _ put taken puts takes put_once put_some taken_once taken_some
      (λ q. counted_after q changes policy (G number) are.order are.possible)

has_domain : (b : Bool) → not b ≡ false → b ≡ true
has_domain true e = refl
has_domain false e = sym e

-- what is counted of a relation with a domain
pub patterns_told : (policy : Policy) (shape : RoleShape) (count : ℕ) → not shape.with_domain ≡ false → count ≡ length (filter (is_pattern shape.domains) (domains_of (rows policy (G shape.number)))) → count ≡ patterns_of policy shape
patterns_told policy shape count with is =
    is ∙ sym (ap (λ (b : Bool). if b then length (filter (is_pattern shape.domains) (domains_of (rows policy (G shape.number)))) else 0) (has_domain shape.with_domain with))

pub pairs_told : (policy : Policy) (shape : RoleShape) (count : ℕ) → not shape.with_domain ≡ false → count ≡ length (different (domains_of (rows policy (G shape.number)))) → count ≡ pairs_of policy shape
pairs_told policy shape count with is = is ∙ sym (ap (λ (b : Bool). if b then length (different (domains_of (rows policy (G shape.number)))) else 0) (has_domain shape.with_domain with))

-- no table has too many rules
short_rows : (policy : Policy) (table : TableId) → AreLists policy.lists → length (rows policy table) < 2 ^ 32
short_rows policy table are = by (place table) refl
  where
    by : (p : Option ℕ) → place table ≡ p → length (option_map_or (λ (at : ℕ). get_or policy.lists at []) p []) < 2 ^ 32
    by None here = omega arith
    by (Some at) here = are.few at [] (subst (λ n. at < n) (sym are.counted) (place_few table at here))

-- so each count is less than that
pub patterns_few : (policy : Policy) (shape : RoleShape) → AreLists policy.lists → length (filter (is_pattern shape.domains) (domains_of (rows policy (G shape.number)))) < 2 ^ 32
patterns_few policy shape are = passing_few (is_pattern shape.domains) (rows policy (G shape.number)) (short_rows policy (G shape.number) are)

pub pairs_few : (policy : Policy) (shape : RoleShape) → AreLists policy.lists → length (different (domains_of (rows policy (G shape.number)))) < 2 ^ 32
pairs_few policy shape are = different_few (rows policy (G shape.number)) (short_rows policy (G shape.number) are)
