-- Tables grow with each rule: where they are within the limits, they were so before.
use Rattle.std.proofs.Common.{◌≡◌, ◌⊎◌, inl, inr, ℕ, ◌+◌, ◌≤◌, Bool, true, false, cond, List, [], ◌∷◌, ◌++◌, length, filter, get_or, Option, Some, None, refl, sym, ap, subst, ◌∙◌, arith, length-append}
use Rattle.std.specs.Prelude.{if◌then◌else◌, is_some}
use Rattle.std.specs.List.{list_any, sum_by}
use Rattle.std.specs.Option.{option_map_or}
use Rattle.std.specs.Str.{bytes_eq}
use Rattle.std.proofs.lemmas.List.Sums.{sum_by-cons}
use Rattle.perm_base.specs.Patterns.{is_pattern}
use Rattle.perm_base.specs.declared.shapes.RoleShape.{RoleShape}
use Rattle.perm_base.specs.declared.shapes.Shapes.{Shapes}
use Rattle.perm_base.specs.declared.shapes.TableId.{TableId}
use Rattle.perm_base.specs.declared.shapes.TableId.TheVariants.{P, G}
use Rattle.policy_csv.proofs.CountLemmas.{domains_push, length_insert}
use Rattle.policy_csv.proofs.LimitLemmas.{AreWithin, none_from_within, within_from_none}
use Rattle.policy_csv.proofs.PutLemmas.{with_entry_counted, with_entry_other, with_entry_own}
use Rattle.policy_csv.specs.Policy.{with_entries, with_entry}
use Rattle.policy_csv.specs.declared.entry.Entry.{Entry}
use Rattle.policy_table.proofs.CallerLemmas.{different_push, length-inserted, passing_push, same_table}
use Rattle.policy_table.specs.Changes.{inserted, is_table}
use Rattle.policy_table.specs.Limits.{different, domains_of, passed, with_domains}
use Rattle.policy_table.specs.Tables.{Fields, Policy, is_ranked, most_tables, place, rows, stands}

-- the same rules, or one more behind them
abbrev Grow : List Fields → List Fields → Type 0
Grow before after = (after ≡ before) ⊎ ((rule : Fields) × (after ≡ before ++ rule ∷ []))

longer : (before after : List Fields) → Grow before after → length before ≤ length after
longer before after (inl e) = omega (arith, ap (λ (l : List Fields). length l) e)
longer before after (inr one) = omega (arith, ap (λ (l : List Fields). length l) one.1, length-append before (one.0 ∷ []))

more_pass : (p : List ℕ → Bool) (before after : List Fields) → Grow before after → length (filter p (domains_of before)) ≤ length (filter p (domains_of after))
more_pass p before after (inl e) = omega (arith, ap (λ (l : List Fields). length (filter p (domains_of l))) e)
more_pass p before after (inr one) =
    let pushed : length (filter p (domains_of after)) ≡ length (filter p (domains_of before)) + cond {A = ℕ} (p (get_or one.0 2 [])) 1 0
    = ap (λ (l : List Fields). length (filter p (domains_of l))) one.1 ∙ ap (λ (l : List (List ℕ)). length (filter p l)) (domains_push before one.0) ∙ passing_push p (domains_of before) (get_or one.0 2 []) in
    omega (arith, pushed)

more_differ : (before after : List Fields) → Grow before after → length (different (domains_of before)) ≤ length (different (domains_of after))
more_differ before after (inl e) = omega (arith, ap (λ (l : List Fields). length (different (domains_of l))) e)
more_differ before after (inr one) =
    let pushed : length (different (domains_of after)) ≡ length (different (domains_of before)) + cond {A = ℕ} (list_any (bytes_eq (get_or one.0 2 [])) (different (domains_of before))) 0 1
    = ap (λ (l : List Fields). length (different (domains_of l))) one.1 ∙ ap (λ (l : List (List ℕ)). length (different l)) (domains_push before one.0)
    ∙ ap (λ (l : List (List ℕ)). length l) (different_push (domains_of before) (get_or one.0 2 [])) ∙ length_insert (different (domains_of before)) (get_or one.0 2 []) in
    omega (arith, pushed)

sum_less : (f g : RoleShape → ℕ) (roles : List RoleShape) → ((role : RoleShape) → f role ≤ g role) → sum_by f roles ≤ sum_by g roles
sum_less f g [] less = omega arith
sum_less f g (role ∷ roles) less = omega (arith, less role, sum_less f g roles less, sum_by-cons f role roles, sum_by-cons g role roles)

-- a table without a place has no rules
pub no_rules : (policy : Policy) (table : TableId) → place table ≡ None → rows policy table ≡ []
no_rules policy table none = ap (λ (p : Option ℕ). option_map_or (λ (at : ℕ). get_or policy.lists at []) p []) none

module _ (entry : Entry) (policy : Policy) (nine : length policy.lists ≡ most_tables) where
  -- its own table, where that has a place
  own_rows : (table : TableId) → table ≡ entry.table → is_some (place table) ≡ true
      → rows (with_entry entry policy) table ≡ (if stands entry.rule (rows policy table) then rows policy table else inserted (is_ranked policy table) entry.rule (rows policy table))
  own_rows table own known =
      subst (λ (t : TableId). rows (with_entry entry policy) t ≡ (if stands entry.rule (rows policy t) then rows policy t else inserted (is_ranked policy t) entry.rule (rows policy t))) (sym own)
      (with_entry_own entry policy nine (subst (λ (t : TableId). is_some (place t) ≡ true) own known))

  roles_grow : (number : ℕ) → Grow (rows policy (G number)) (rows (with_entry entry policy) (G number))
  roles_grow number = by (is_table (G number) entry.table) refl
    where
      pick : (b : Bool) → rows (with_entry entry policy) (G number) ≡ (if b then rows policy (G number) else rows policy (G number) ++ entry.rule ∷ []) → Grow (rows policy (G number)) (rows (with_entry entry policy) (G number))
      pick true e = inl e
      pick false e = inr (entry.rule, e)

      by_place : (p : Option ℕ) → place (G number) ≡ p → G number ≡ entry.table → Grow (rows policy (G number)) (rows (with_entry entry policy) (G number))
      by_place None none own = inl (no_rules (with_entry entry policy) (G number) none ∙ sym (no_rules policy (G number) none))
      by_place (Some at) here own = pick (stands entry.rule (rows policy (G number))) (own_rows (G number) own (ap (λ (p : Option ℕ). is_some p) here))

      by : (b : Bool) → is_table (G number) entry.table ≡ b → Grow (rows policy (G number)) (rows (with_entry entry policy) (G number))
      by true e = by_place (place (G number)) refl (same_table (G number) entry.table e)
      by false e = inl (with_entry_other entry policy (G number) e)

  rules_grow : length (rows policy P) ≤ length (rows (with_entry entry policy) P)
  rules_grow = by (is_table P entry.table) refl
    where
      pick : (b : Bool) → rows (with_entry entry policy) P ≡ (if b then rows policy P else inserted policy.ranked entry.rule (rows policy P)) → length (rows policy P) ≤ length (rows (with_entry entry policy) P)
      pick true e = omega (arith, ap (λ (l : List Fields). length l) e)
      pick false e = omega (arith, ap (λ (l : List Fields). length l) e, length-inserted policy.ranked entry.rule (rows policy P))

      by : (b : Bool) → is_table P entry.table ≡ b → length (rows policy P) ≤ length (rows (with_entry entry policy) P)
      by true e = pick (stands entry.rule (rows policy P)) (own_rows P (same_table P entry.table e) refl)
      by false e = omega (arith, ap (λ (l : List Fields). length l) (with_entry_other entry policy P e))

  -- within the limits with a rule, and so without it
  within_without : (shapes : Shapes) → AreWithin shapes (with_entry entry policy) → AreWithin shapes policy
  within_without shapes after = record {
    rules = omega (arith, rules_grow, after.rules);
    roles = omega (
      arith,
      sum_less (λ (role : RoleShape). length (rows policy (G role.number))) (λ (role : RoleShape). length (rows (with_entry entry policy) (G role.number))) shapes.roles
          (λ role. longer (rows policy (G role.number)) (rows (with_entry entry policy) (G role.number)) (roles_grow role.number)),
      after.roles,
    );
    patterns = omega (
      arith,
      sum_less (λ (role : RoleShape). length (filter (is_pattern role.domains) (domains_of (rows policy (G role.number))))) (λ (role : RoleShape). length (filter (is_pattern role.domains) (domains_of (rows (with_entry entry policy) (G role.number))))) (with_domains shapes)
          (λ role. more_pass (is_pattern role.domains) (rows policy (G role.number)) (rows (with_entry entry policy) (G role.number)) (roles_grow role.number)),
      after.patterns,
    );
    pairs = omega (
      arith,
      sum_less (λ (role : RoleShape). length (different (domains_of (rows policy (G role.number))))) (λ (role : RoleShape). length (different (domains_of (rows (with_entry entry policy) (G role.number))))) (with_domains shapes)
          (λ role. more_differ (rows policy (G role.number)) (rows (with_entry entry policy) (G role.number)) (roles_grow role.number)),
      after.pairs,
    );
  }

  pub passed_without : (shapes : Shapes) → passed shapes (with_entry entry policy) ≡ None → passed shapes policy ≡ None
  passed_without shapes none = none_from_within shapes policy (within_without shapes (within_from_none shapes (with_entry entry policy) none))

-- the same of several rules
pub passed_before : (shapes : Shapes) (entries : List Entry) (policy : Policy) → length policy.lists ≡ most_tables → passed shapes (with_entries entries policy) ≡ None → passed shapes policy ≡ None
unfolding with_entries
passed_before shapes [] policy nine none = none
passed_before shapes (entry ∷ entries) policy nine none = passed_without entry policy nine shapes (passed_before shapes entries (with_entry entry policy) (with_entry_counted entry policy ∙ nine) none)
