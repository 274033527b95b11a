-- How many rules a table has after an edit that applies.
use Rattle.std.proofs.Common.{◌≡◌, ℕ, ◌+◌, Bool, true, false, ◌&&◌, cond, List, [], ◌∷◌, length, refl, sym, ap, subst, ◌∙◌, arith}
use Rattle.std.specs.Prelude.{is_some}
use Rattle.std.specs.List.{count_by}
use Rattle.std.proofs.lemmas.Bool.{and_parts}
use Rattle.std.proofs.lemmas.List.Sums.{sum_by-cons}
use Rattle.perm_base.specs.declared.shapes.TableId.{TableId}
use Rattle.policy_table.specs.Changes.{applies, changed, edited, is_possible, is_table, suits, table_of}
use Rattle.policy_table.specs.Helps.Counts.{inserts, removes}
use Rattle.policy_table.specs.Tables.{AreOrdered, Policy, is_ranked, place, rows}
use Rattle.policy_table.specs.declared.change.Change.{Change}
use Rattle.policy_table.specs.declared.change.Change.TheVariants.{Insert, Remove, Replace}
use Rattle.policy_table.proofs.RuleLemmas.{is_insert, is_remove, length-changed}
use Rattle.policy_table.proofs.LawLemmas.{first_possible, ordered_changed, rest_possible, rows_other, rows_possible}
use Rattle.policy_table.proofs.PlaceLemmas.{same_table}

right_true : (b : Bool) → b ≡ (b && true)
right_true true = refl
right_true false = refl

right_false : (b : Bool) → false ≡ (b && false)
right_false true = refl
right_false false = refl

-- a change puts a rule into its own table alone
inserts_is : (table : TableId) (change : Change) → inserts table change ≡ (is_table table (table_of change) && is_insert change)
inserts_is table (Insert other rule) = right_true (is_table table other)
inserts_is table (Remove other rule) = right_false (is_table table other)
inserts_is table (Replace other old new) = right_false (is_table table other)

-- and takes one out of that alone
removes_is : (table : TableId) (change : Change) → removes table change ≡ (is_table table (table_of change) && is_remove change)
removes_is table (Insert other rule) = right_false (is_table table other)
removes_is table (Remove other rule) = right_true (is_table table other)
removes_is table (Replace other old new) = right_false (is_table table other)

module _ (change : Change) (policy : Policy) (order : AreOrdered policy) (possible : is_possible change policy ≡ true) where
  fits : suits change (rows policy (table_of change)) ≡ true
  fits = (and_parts (is_some (place (table_of change))) (suits change (rows policy (table_of change))) possible).1

  -- how many rules its own table has
  length_same : length (rows (changed change policy) (table_of change)) + cond (is_remove change) 1 0 ≡ length (rows policy (table_of change)) + cond (is_insert change) 1 0
  length_same =
      omega (
        arith,
        ap length (rows_possible change policy order.counted possible),
        length-changed (is_ranked policy (table_of change)) change (rows policy (table_of change)) (order.once (table_of change)) fits,
      )

  -- how many rules a table has after the change
  length_one : (table : TableId) → length (rows (changed change policy) table) + cond (removes table change) 1 0 ≡ length (rows policy table) + cond (inserts table change) 1 0
  length_one table = by (is_table table (table_of change)) refl
    where
      by : (b : Bool) → is_table table (table_of change) ≡ b
          → length (rows (changed change policy) table) + cond (removes table change) 1 0 ≡ length (rows policy table) + cond (inserts table change) 1 0
      by true t =
          let out : cond {A = ℕ} (removes table change) 1 0 ≡ cond {A = ℕ} (is_remove change) 1 0 = ap (λ (b : Bool). cond {A = ℕ} b 1 0) (removes_is table change ∙ ap (λ (b : Bool). b && is_remove change) t) in
          let put : cond {A = ℕ} (inserts table change) 1 0 ≡ cond {A = ℕ} (is_insert change) 1 0 = ap (λ (b : Bool). cond {A = ℕ} b 1 0) (inserts_is table change ∙ ap (λ (b : Bool). b && is_insert change) t) in
          let here = subst (λ (u : TableId). length (rows (changed change policy) u) + cond {A = ℕ} (is_remove change) 1 0 ≡ length (rows policy u) + cond {A = ℕ} (is_insert change) 1 0) (sym (same_table table (table_of change) t)) length_same in
          omega (arith, here, out, put)
      by false t =
          let out : cond {A = ℕ} (removes table change) 1 0 ≡ 0 = ap (λ (b : Bool). cond {A = ℕ} b 1 0) (removes_is table change ∙ ap (λ (b : Bool). b && is_remove change) t) in
          let put : cond {A = ℕ} (inserts table change) 1 0 ≡ 0 = ap (λ (b : Bool). cond {A = ℕ} b 1 0) (inserts_is table change ∙ ap (λ (b : Bool). b && is_insert change) t) in
          omega (arith, ap length (rows_other change policy table t), out, put)

-- how many rules a table has after an edit
pub length_edited : (changes : List Change) (policy : Policy) (table : TableId) → AreOrdered policy → applies changes policy ≡ true
    → length (rows (edited changes policy) table) + count_by (removes table) changes ≡ length (rows policy table) + count_by (inserts table) changes
unfolding edited
length_edited [] policy table order possible = refl
length_edited (change ∷ changes) policy table order possible =
    let first = first_possible change changes policy possible in
    let one : length (rows (changed change policy) table) + cond (removes table change) 1 0 ≡ length (rows policy table) + cond (inserts table change) 1 0
    = length_one change policy order first table in
    let rest : length (rows (edited changes (changed change policy)) table) + count_by (removes table) changes ≡ length (rows (changed change policy) table) + count_by (inserts table) changes
    = length_edited changes (changed change policy) table (ordered_changed change policy order first) (rest_possible change changes policy possible) in
    omega (arith, one, rest, sum_by-cons (λ (c : Change). cond (removes table c) 1 0) change changes, sum_by-cons (λ (c : Change). cond (inserts table c) 1 0) change changes)
