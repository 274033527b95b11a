-- Sums over the rules of a table before and after changes that suit them.
use Rattle.std.proofs.Common.{◌≡◌, ℕ, ◌+◌, Bool, true, false, ◌&&◌, ◌||◌, not, cond, if◌then◌else◌, List, [], ◌∷◌, refl, sym, ap, subst, ◌∙◌, arith, true≢false}
use Rattle.std.specs.Prelude.{is_some}
use Rattle.std.specs.List.{IsDistinct, sum_by}
use Rattle.std.proofs.lemmas.Bool.{and_parts}
use Rattle.std.proofs.lemmas.List.Sorted.{sum_by-IsPermutation}
use Rattle.std.proofs.lemmas.List.Sums.{sum_by-cons}
use Rattle.perm_base.specs.declared.shapes.TableId.{TableId}
use Rattle.policy_table.specs.Changes.{applies, changed, changed_rules, edited, in_place, inserted, is_possible, is_table, ranked_in, replaced, suits, table_of, without}
use Rattle.policy_table.specs.Ranks.{is_level}
use Rattle.policy_table.specs.Tables.{AreOrdered, Fields, Policy, is_ranked, place, rows, same, stands}
use Rattle.policy_table.specs.Helps.Counts.{out_of, put_by, put_into, taken_by}
use Rattle.policy_table.specs.declared.change.Change.{Change}
use Rattle.policy_table.specs.declared.change.Change.TheVariants.{Insert, Remove, Replace}
use Rattle.policy_table.proofs.RowLemmas.{apart_from, renamed-absent, without-absent}
use Rattle.policy_table.proofs.RuleLemmas.{inserted-IsPermutation, same-Decides}
use Rattle.policy_table.proofs.LawLemmas.{first_possible, ordered_changed, rest_possible, rows_other, rows_possible}
use Rattle.policy_table.proofs.PlaceLemmas.{same_table}

module _ (f : Fields → ℕ) where
  -- with one more
  pub sum_inserted : (ranked : Bool) (rule : Fields) (rules : List Fields) → sum_by f (inserted ranked rule rules) ≡ f rule + sum_by f rules
  sum_inserted ranked rule rules = sum_by-IsPermutation f (rule ∷ rules) (inserted ranked rule rules) (inserted-IsPermutation ranked rule rules) ∙ sum_by-cons f rule rules

  -- without one of distinct rules
  pub sum_without : (rule : Fields) (rules : List Fields) → IsDistinct same rules → stands rule rules ≡ true → sum_by f (without rule rules) + f rule ≡ sum_by f rules
  unfolding IsDistinct
  sum_without rule [] distinct some = absurd (true≢false (sym some))
  sum_without rule (x ∷ rules) distinct some = by (same rule x) refl some (λ is. sum_without rule rules distinct.1 is)
    where
      by : (b : Bool) → same rule x ≡ b → (b || stands rule rules) ≡ true → (stands rule rules ≡ true → sum_by f (without rule rules) + f rule ≡ sum_by f rules)
          → sum_by f (cond (not b) (x ∷ without rule rules) (without rule rules)) + f rule ≡ sum_by f (x ∷ rules)
      by true e is rest =
          let left : sum_by f (without rule rules) ≡ sum_by f rules = ap (sum_by f) (without-absent same rule rules (apart_from same same-Decides rule x rules e distinct.0)) in
          omega (arith, left, ap f ((same-Decides rule x).0 e), sum_by-cons f x rules)
      by false e is rest = omega (arith, rest is, sum_by-cons f x (without rule rules), sum_by-cons f x rules)

  -- with a new one in the place of an old one
  sum_in_place : (old new : Fields) (rules : List Fields) → IsDistinct same rules → stands old rules ≡ true → sum_by f (in_place old new rules) + f old ≡ sum_by f rules + f new
  unfolding IsDistinct
  sum_in_place old new [] distinct some = absurd (true≢false (sym some))
  sum_in_place old new (x ∷ rules) distinct some = by (same old x) refl some (λ is. sum_in_place old new rules distinct.1 is)
    where
      by : (b : Bool) → same old x ≡ b → (b || stands old rules) ≡ true → (stands old rules ≡ true → sum_by f (in_place old new rules) + f old ≡ sum_by f rules + f new)
          → sum_by f ((if b then new else x) ∷ in_place old new rules) + f old ≡ sum_by f (x ∷ rules) + f new
      by true e is rest =
          let left : sum_by f (in_place old new rules) ≡ sum_by f rules = ap (sum_by f) (renamed-absent same old new rules (apart_from same same-Decides old x rules e distinct.0)) in
          omega (arith, left, ap f ((same-Decides old x).0 e), sum_by-cons f x rules, sum_by-cons f new (in_place old new rules))
      by false e is rest = omega (arith, rest is, sum_by-cons f x (in_place old new rules), sum_by-cons f x rules)

  pub sum_replaced : (ranked : Bool) (old new : Fields) (rules : List Fields) → IsDistinct same rules → stands old rules ≡ true → sum_by f (replaced ranked old new rules) + f old ≡ sum_by f rules + f new
  sum_replaced ranked old new rules distinct some = by (ranked && not (is_level old new))
    where
      by : (b : Bool) → sum_by f (if b then ranked_in new (without old rules) else in_place old new rules) + f old ≡ sum_by f rules + f new
      by true = omega (arith, sum_inserted true new (without old rules), sum_without old rules distinct some)
      by false = sum_in_place old new rules distinct some

  -- a change takes out what it takes out and puts in what it puts in
  pub sum_changed : (ranked : Bool) (change : Change) (rules : List Fields) → IsDistinct same rules → suits change rules ≡ true
      → sum_by f (changed_rules ranked change rules) + sum_by f (taken_by change) ≡ sum_by f rules + sum_by f (put_by change)
  sum_changed ranked (Insert table rule) rules distinct fits = omega (arith, sum_inserted ranked rule rules, sum_by-cons f rule [])
  sum_changed ranked (Remove table rule) rules distinct fits = omega (arith, sum_without rule rules distinct fits, sum_by-cons f rule [])
  sum_changed ranked (Replace table old new) rules distinct fits =
      omega (arith, sum_replaced ranked old new rules distinct (and_parts (stands old rules) (not (stands new rules)) fits).0, sum_by-cons f old [], sum_by-cons f new [])

  -- of one table
  sum_one : (change : Change) (policy : Policy) (table : TableId) → AreOrdered policy → is_possible change policy ≡ true
      → sum_by f (rows (changed change policy) table) + sum_by f (out_of table change) ≡ sum_by f (rows policy table) + sum_by f (put_into table change)
  sum_one change policy table order possible = by (is_table table (table_of change)) refl
    where
      fits : suits change (rows policy (table_of change)) ≡ true
      fits = (and_parts (is_some (place (table_of change))) (suits change (rows policy (table_of change))) possible).1

      own : sum_by f (rows (changed change policy) (table_of change)) + sum_by f (taken_by change) ≡ sum_by f (rows policy (table_of change)) + sum_by f (put_by change)
      own =
          omega (
            arith,
            ap (sum_by f) (rows_possible change policy order.counted possible),
            sum_changed (is_ranked policy (table_of change)) change (rows policy (table_of change)) (order.once (table_of change)) fits,
          )

      by : (b : Bool) → is_table table (table_of change) ≡ b
          → sum_by f (rows (changed change policy) table) + sum_by f (if b then taken_by change else []) ≡ sum_by f (rows policy table) + sum_by f (if b then put_by change else [])
      by true e =
          subst (λ (t : TableId). sum_by f (rows (changed change policy) t) + sum_by f (taken_by change) ≡ sum_by f (rows policy t) + sum_by f (put_by change)) (sym (same_table table (table_of change) e)) own
      by false e = ap (λ (l : List Fields). sum_by f l + 0) (rows_other change policy table e)

  -- and an edit all that its changes do
  pub sum_edited : (changes : List Change) (policy : Policy) (table : TableId) → AreOrdered policy → applies changes policy ≡ true
      → sum_by f (rows (edited changes policy) table) + sum_by (λ (c : Change). sum_by f (out_of table c)) changes
      ≡ sum_by f (rows policy table) + sum_by (λ (c : Change). sum_by f (put_into table c)) changes
  unfolding edited
  sum_edited [] policy table order possible = refl
  sum_edited (change ∷ changes) policy table order possible =
      let first = first_possible change changes policy possible in
      let one = sum_one change policy table order first in
      let rest = sum_edited changes (changed change policy) table (ordered_changed change policy order first) (rest_possible change changes policy possible) in
      omega (arith, one, rest, sum_by-cons (λ (c : Change). sum_by f (out_of table c)) change changes, sum_by-cons (λ (c : Change). sum_by f (put_into table c)) change changes)
