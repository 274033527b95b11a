-- Tables of given shapes within the limits: they are short enough, edits keep them so, and tables without rules are so.
use Rattle.std.proofs.Common.{◌≡◌, ℕ, zero, suc, ◌+◌, ◌<◌, ◌≤◌, ◌^◌, Bool, true, false, not, ◌&&◌, cond, eqb, List, [], ◌∷◌, length, filter, get_or, All, Option, Some, None, refl, sym, ap, subst, ◌∙◌, arith}
use Rattle.std.specs.Prelude.{if◌then◌else◌, nat_lt, IsTrue}
use Rattle.std.specs.List.{sum_by}
use Rattle.std.specs.Option.{option_map_or}
use Rattle.std.proofs.lemmas.Bool.{eqb-true, ltb-false, lt-ltb}
use Rattle.std.proofs.lemmas.List.{get_or_default}
use Rattle.std.proofs.lemmas.List.Elements.{All-cons, All-filter, All-map, All-nil, All-weaker}
use Rattle.std.proofs.lemmas.List.Sorted.{All-permutation}
use Rattle.std.proofs.lemmas.List.Sums.{sum_by-cons}
use Rattle.perm_base.specs.Patterns.{is_pattern}
use Rattle.perm_base.specs.RoleShapes.{shape_of}
use Rattle.perm_base.specs.declared.shapes.RoleShape.{RoleShape}
use Rattle.perm_base.specs.declared.shapes.Shapes.{Shapes}
use Rattle.perm_base.specs.declared.shapes.TableId.{TableId}
use Rattle.perm_base.specs.declared.shapes.TableId.TheVariants.{P, G}
use Rattle.policy_table.specs.Changes.{changed, changed_rules, edited, in_place, inserted, is_table, ranked_in, table_of, without}
use Rattle.policy_table.specs.Limits.{AreSound, HaveShapes, columns_of, different, domain_pairs, domains_of, has_short_fields, passed, pattern_rows, role_columns, role_rows, with_domains}
use Rattle.policy_table.specs.Ranks.{is_level}
use Rattle.policy_table.specs.Tables.{AreLists, Fields, Policy, is_ranked, most_tables, place, rows, same}
use Rattle.policy_table.specs.declared.change.Change.{Change}
use Rattle.policy_table.specs.declared.change.Change.TheVariants.{Insert, Remove, Replace}
use Rattle.policy_table.specs.declared.limit.Limit.{Limit}
use Rattle.policy_table.specs.declared.limit.Limit.TheVariants.{Domains, PatternRows, PolicyRows, RoleRows}
use Rattle.policy_table.proofs.LawLemmas.{ranked_edited, rows_other, rows_own}
use Rattle.policy_table.proofs.LimitLemmas.{different_none}
use Rattle.policy_table.proofs.PlaceLemmas.{same_table}
use Rattle.policy_table.proofs.RuleLemmas.{inserted-IsPermutation}

-- the rules of p and of all relations are few
pub few_rows : (shapes : Shapes) (policy : Policy) → passed shapes policy ≡ None → (length (rows policy P) ≤ 200000) × (role_rows shapes policy ≤ 200000)
few_rows shapes policy is = by (nat_lt 200000 (length (rows policy P))) refl (nat_lt 200000 (role_rows shapes policy)) refl is
  where
    rest : Option Limit
    rest = if nat_lt 64 (pattern_rows shapes policy) then Some PatternRows else (if nat_lt 16384 (domain_pairs shapes policy) then Some Domains else None)

    by : (a : Bool) → nat_lt 200000 (length (rows policy P)) ≡ a → (b : Bool) → nat_lt 200000 (role_rows shapes policy) ≡ b → (if a then Some PolicyRows else (if b then Some RoleRows else rest)) ≡ None
        → (length (rows policy P) ≤ 200000) × (role_rows shapes policy ≤ 200000)
    by true x b y none = absurd cc
    by false x true y none = absurd cc
    by false x false y none = (ltb-false 200000 (length (rows policy P)) x, ltb-false 200000 (role_rows shapes policy) y)

-- the rules of a relation that is found are some of them
some_rows : (policy : Policy) (roles : List RoleShape) (number : ℕ) (shape : RoleShape) → shape_of roles number ≡ Some shape → length (rows policy (G number)) ≤ sum_by (λ (role : RoleShape). length (rows policy (G role.number))) roles
some_rows policy [] number shape found = absurd cc
some_rows policy (role ∷ roles) number shape found =
    subst (λ n. length (rows policy (G number)) ≤ n) (sym (sum_by-cons (λ (r : RoleShape). length (rows policy (G r.number))) role roles)) (by_test (eqb role.number number) refl found (some_rows policy roles number shape))
  where
    others : ℕ
    others = sum_by (λ (r : RoleShape). length (rows policy (G r.number))) roles

    by_test : (test : Bool) → eqb role.number number ≡ test → cond test (Some role) (shape_of roles number) ≡ Some shape → (shape_of roles number ≡ Some shape → length (rows policy (G number)) ≤ others) → length (rows policy (G number)) ≤ length (rows policy (G role.number)) + others
    by_test true e is rest = subst (λ (n : ℕ). length (rows policy (G n)) ≤ length (rows policy (G role.number)) + others) (eqb-true role.number number e) (omega arith)
    by_test false e is rest = omega (arith, rest is)

-- each relation has few rules
pub few_of_relation : (shapes : Shapes) (policy : Policy) (number : ℕ) → HaveShapes shapes policy → role_rows shapes policy ≤ 200000 → length (rows policy (G number)) ≤ 200000
few_of_relation shapes policy number shaped few = by (shape_of shapes.roles number) refl
  where
    no_rules : (rules : List Fields) → All (λ (rule : Fields). None ≡ Some (length rule)) rules → length rules ≤ 200000
    no_rules [] all = omega arith
    no_rules (rule ∷ rules) all = absurd (none_some (length rule) (all 0 [] (omega arith)))
      where
        none_some : (n : ℕ) → None ≡ Some n → ⊥
        none_some n e = absurd cc

    by : (p : Option RoleShape) → shape_of shapes.roles number ≡ p → length (rows policy (G number)) ≤ 200000
    by (Some shape) e = omega (arith, some_rows policy shapes.roles number shape e, few)
    by None e = no_rules (rows policy (G number)) (subst (λ (p : Option RoleShape). All (λ (rule : Fields). option_map_or (λ (shape : RoleShape). Some (role_columns shape)) p None ≡ Some (length rule)) (rows policy (G number))) e (shaped.columns (G number)))

-- so no table has too many
pub lists_few : (shapes : Shapes) (policy : Policy) → length policy.lists ≡ most_tables → HaveShapes shapes policy → length (rows policy P) ≤ 200000 → role_rows shapes policy ≤ 200000 → AreLists policy.lists
lists_few shapes policy counted shaped own others = record { counted = counted; few = λ k d within. by k d within }
  where
    at_place : (k : ℕ) (d : List Fields) → k < length policy.lists → length (get_or policy.lists k []) ≤ 200000 → length (get_or policy.lists k d) < 2 ^ 32
    at_place k d within few = subst (λ (rules : List Fields). length rules < 2 ^ 32) (get_or_default policy.lists k [] d within) (omega (arith, few))

    by : (k : ℕ) (d : List Fields) → k < length policy.lists → length (get_or policy.lists k d) < 2 ^ 32
    by zero d within = at_place 0 d within own
    by (suc k) d within =
        let there : rows policy (G (suc k)) ≡ get_or policy.lists (suc k) [] = rw (lt-ltb 0 (suc k) (omega arith), lt-ltb (suc k) 9 (omega (arith, within, counted))) refl in
        at_place (suc k) d within (subst (λ (rules : List Fields). length rules ≤ 200000) there (few_of_relation shapes policy (suc k) shaped others))

-- nor within the limits
pub are_lists : (shapes : Shapes) (policy : Policy) → length policy.lists ≡ most_tables → HaveShapes shapes policy → passed shapes policy ≡ None → AreLists policy.lists
are_lists shapes policy counted shaped none =
    let low = few_rows shapes policy none in
    lists_few shapes policy counted shaped low.0 low.1

-- what a change puts into its table has a property
abbrev pub Puts : (TableId → Fields → Type 0) → Change → Type 0
Puts R (Insert table rule) = R table rule
Puts R (Remove table rule) = Unit {0}
Puts R (Replace table old new) = R table new

-- and what changes put
abbrev pub PutAll : (TableId → Fields → Type 0) → List Change → Type 0
PutAll R [] = Unit {0}
PutAll R (change ∷ changes) = Puts R change × PutAll R changes

-- then the rules of its table have it after the change where they had it before
all_rules : (R : TableId → Fields → Type 0) (ranked : Bool) (change : Change) (rules : List Fields) → Puts R change → All (R (table_of change)) rules → All (R (table_of change)) (changed_rules ranked change rules)
all_rules R ranked (Insert table rule) rules put all =
    All-permutation (R table) (rule ∷ rules) (inserted ranked rule rules) (inserted-IsPermutation ranked rule rules) (All-cons (R table) rule rules put all)
all_rules R ranked (Remove table rule) rules put all = All-filter (λ (other : Fields). not (same rule other)) (R table) rules all
all_rules R ranked (Replace table old new) rules put all = by (ranked && not (is_level old new))
  where
    renamed : Fields → Fields
    renamed other = if same old other then new else other

    by_same : (b : Bool) (other : Fields) → R table other → R table (if b then new else other)
    by_same true other is = put
    by_same false other is = is

    by : (b : Bool) → All (R table) (if b then ranked_in new (without old rules) else in_place old new rules)
    by true =
        All-permutation (R table) (new ∷ without old rules) (ranked_in new (without old rules)) (inserted-IsPermutation true new (without old rules))
        (All-cons (R table) new (without old rules) put (All-filter (λ (other : Fields). not (same old other)) (R table) rules all))
    by false = All-map (R table) renamed rules (All-weaker (R table) (λ (other : Fields). R table (renamed other)) (λ other is. by_same (same old other) other is) rules all)

-- and those of each table
all_changed : (R : TableId → Fields → Type 0) (change : Change) (policy : Policy) → Puts R change → ((table : TableId) → All (R table) (rows policy table)) → (table : TableId) → All (R table) (rows (changed change policy) table)
all_changed R change policy put all table = by (is_table table (table_of change)) refl
  where
    new : List Fields
    new = changed_rules (is_ranked policy (table_of change)) change (rows policy (table_of change))

    of_new : All (R (table_of change)) new
    of_new = all_rules R (is_ranked policy (table_of change)) change (rows policy (table_of change)) put (all (table_of change))

    by_within : (b : Bool) → All (R (table_of change)) (if b then new else [])
    by_within true = of_new
    by_within false = All-nil (R (table_of change))

    by_place : (p : Option ℕ) → place (table_of change) ≡ p → All (R (table_of change)) (rows (changed change policy) (table_of change))
    by_place None here =
        subst (λ (p : Option ℕ). All (R (table_of change)) (option_map_or (λ (at : ℕ). get_or (changed change policy).lists at []) p [])) (sym here) (All-nil (R (table_of change)))
    by_place (Some at) here = subst (All (R (table_of change))) (sym (rows_own change policy at here)) (by_within (nat_lt at (length policy.lists)))

    by : (b : Bool) → is_table table (table_of change) ≡ b → All (R table) (rows (changed change policy) table)
    by true e = subst (λ (t : TableId). All (R t) (rows (changed change policy) t)) (sym (same_table table (table_of change) e)) (by_place (place (table_of change)) refl)
    by false e = subst (All (R table)) (sym (rows_other change policy table e)) (all table)

-- also after an edit
pub all_edited : (R : TableId → Fields → Type 0) (changes : List Change) (policy : Policy) → PutAll R changes → ((table : TableId) → All (R table) (rows policy table)) → (table : TableId) → All (R table) (rows (edited changes policy) table)
unfolding edited
all_edited R [] policy put all table = all table
all_edited R (change ∷ changes) policy put all table = all_edited R changes (changed change policy) put.1 (λ t. all_changed R change policy put.0 all t) table

-- tables have the shapes after an edit that puts in rules with their tables' numbers of columns
pub shapes_edited : (shapes : Shapes) (changes : List Change) (policy : Policy) → PutAll (λ (table : TableId) (rule : Fields). columns_of shapes table ≡ Some (length rule)) changes → HaveShapes shapes policy → HaveShapes shapes (edited changes policy)
shapes_edited shapes changes policy put have = record {
  columns = all_edited (λ (table : TableId) (rule : Fields). columns_of shapes table ≡ Some (length rule)) changes policy put have.columns;
  ranked = ranked_edited changes policy ∙ have.ranked;
}

-- and no long field after one that puts in rules without long fields
pub short_edited : (changes : List Change) (policy : Policy) → PutAll (λ (table : TableId) (rule : Fields). IsTrue (has_short_fields rule)) changes
    → ((table : TableId) → All (λ (rule : Fields). IsTrue (has_short_fields rule)) (rows policy table)) → (table : TableId) → All (λ (rule : Fields). IsTrue (has_short_fields rule)) (rows (edited changes policy) table)
short_edited changes policy put short = all_edited (λ (table : TableId) (rule : Fields). IsTrue (has_short_fields rule)) changes policy put short

-- a sum of nothing
pub no_sum : (f : RoleShape → ℕ) (roles : List RoleShape) → ((role : RoleShape) → f role ≡ 0) → sum_by f roles ≡ 0
no_sum f [] none = refl
no_sum f (role ∷ roles) none = sum_by-cons f role roles ∙ rw (none role, no_sum f roles none) refl

-- tables without rules have every shape with their mark, and pass no limit
pub empty_is_sound : (shapes : Shapes) (policy : Policy) → policy.ranked ≡ shapes.ranked → ((table : TableId) → rows policy table ≡ []) → AreSound shapes policy
empty_is_sound shapes policy mark none = record {
  shaped = record {
    columns = λ table. subst (All (λ (rule : Fields). columns_of shapes table ≡ Some (length rule))) (sym (none table)) (All-nil _);
    ranked = mark;
  };
  short = λ table. subst (All (λ (rule : Fields). IsTrue (has_short_fields rule))) (sym (none table)) (All-nil _);
  within = rw (ap length (none P), rules, patterns, pairs) refl;
}
  where
    rules : role_rows shapes policy ≡ 0
    rules = no_sum (λ (role : RoleShape). length (rows policy (G role.number))) shapes.roles (λ role. ap length (none (G role.number)))

    patterns : pattern_rows shapes policy ≡ 0
    patterns = no_sum (λ (role : RoleShape). length (filter (is_pattern role.domains) (domains_of (rows policy (G role.number))))) (with_domains shapes) (λ role. ap (λ (l : List Fields). length (filter (is_pattern role.domains) (domains_of l))) (none (G role.number)))

    pairs : domain_pairs shapes policy ≡ 0
    pairs = no_sum (λ (role : RoleShape). length (different (domains_of (rows policy (G role.number))))) (with_domains shapes) (λ role. ap (λ (l : List Fields). length (different (domains_of l))) (none (G role.number)) ∙ ap length different_none)
