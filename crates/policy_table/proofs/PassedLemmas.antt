-- The first limit that tables pass after an edit.
use Rattle.std.proofs.Common.{◌≡◌, ℕ, Bool, true, false, not, ◌||◌, List, [], ◌∷◌, length, filter, Option, Some, None, refl, sym, ap, ◌∙◌, true≢false}
use Rattle.std.specs.Prelude.{if◌then◌else◌, nat_lt}
use Rattle.std.specs.List.{list_any, sum_by}
use Rattle.perm_base.specs.Patterns.{is_pattern}
use Rattle.perm_base.specs.declared.shapes.RoleShape.{RoleShape}
use Rattle.perm_base.specs.declared.shapes.Shapes.{Shapes}
use Rattle.perm_base.specs.declared.shapes.TableId.TheVariants.{P, G}
use Rattle.policy_table.specs.Changes.{changed, edited, is_table, table_of}
use Rattle.policy_table.specs.Tables.{Policy, rows}
use Rattle.policy_table.specs.declared.change.Change.{Change}
use Rattle.policy_table.specs.Helps.Counts.{domain_limit, is_of_roles}
use Rattle.policy_table.specs.Limits.{different, domain_pairs, domains_of, passed, pattern_rows, role_rows, with_domains}
use Rattle.policy_table.specs.declared.limit.Limit.{Limit}
use Rattle.policy_table.specs.declared.limit.Limit.TheVariants.{PolicyRows, RoleRows, PatternRows, Domains}
use Rattle.policy_table.proofs.LawLemmas.{rows_other}
use Rattle.policy_table.proofs.PlaceLemmas.{same_table}

left_not : (a b : Bool) → (not a || b) ≡ false → a ≡ true
left_not true b e = refl
left_not false b e = absurd (true≢false e)

right_not : (a b : Bool) → (a || b) ≡ false → b ≡ false
right_not true b e = absurd (true≢false e)
right_not false b e = e

-- a change of p is not of a relation
apart : (change : Change) (number : ℕ) → is_table P (table_of change) ≡ true → is_table (G number) (table_of change) ≡ false
apart change number e = ap (is_table (G number)) (sym (same_table P (table_of change) e))

-- an edit of p leaves the rules of the relations
pub relations_stay : (changes : List Change) (policy : Policy) → list_any is_of_roles changes ≡ false → (number : ℕ) → rows (edited changes policy) (G number) ≡ rows policy (G number)
unfolding edited
relations_stay [] policy none number = refl
relations_stay (change ∷ changes) policy none number =
    relations_stay changes (changed change policy) (right_not _ _ none) number ∙ rows_other change policy (G number) (apart change number (left_not _ _ none))

-- the first of four limits, by a test of each
abbrev first_of : Bool → Bool → Bool → Bool → Option Limit
first_of a b c d = if a then Some PolicyRows else if b then Some RoleRows else if c then Some PatternRows else if d then Some Domains else None

-- where none is passed, the last two are not
last_two : (a b c d : Bool) → first_of a b c d ≡ None → (c ≡ false) × (d ≡ false)
last_two true b c d e = absurd cc
last_two false true c d e = absurd cc
last_two false false true d e = absurd cc
last_two false false false true e = absurd cc
last_two false false false false e = (refl, refl)

-- where the rules of p and of the relations are few, the limits on domains decide
passed_last : (shapes : Shapes) (policy : Policy) → nat_lt 200000 (length (rows policy P)) ≡ false → nat_lt 200000 (role_rows shapes policy) ≡ false → domain_limit shapes policy ≡ passed shapes policy
passed_last shapes policy e f = two (nat_lt 200000 (length (rows policy P))) (nat_lt 200000 (role_rows shapes policy)) e f
  where
    two : (a b : Bool) → a ≡ false → b ≡ false → domain_limit shapes policy ≡ first_of a b (nat_lt 64 (pattern_rows shapes policy)) (nat_lt 16384 (domain_pairs shapes policy))
    two a b x y = rw (x, y) refl

-- tables whose relations have the same rules pass the same limits on domains
same_limit : (shapes : Shapes) (before after : Policy) → ((number : ℕ) → rows after (G number) ≡ rows before (G number)) → domain_limit shapes after ≡ domain_limit shapes before
same_limit shapes before after same =
    λ j. (if nat_lt 64 (sum_by (λ (shape : RoleShape). length (filter (is_pattern shape.domains) (domains_of (same shape.number j)))) (with_domains shapes)) then Some PatternRows
    else if nat_lt 16384 (sum_by (λ (shape : RoleShape). length (different (domains_of (same shape.number j)))) (with_domains shapes)) then Some Domains else None)

-- where the relations stay and no limit was passed, none on domains is
pub passed_none : (shapes : Shapes) (before after : Policy) → ((number : ℕ) → rows after (G number) ≡ rows before (G number)) → passed shapes before ≡ None
    → nat_lt 200000 (length (rows after P)) ≡ false → nat_lt 200000 (role_rows shapes after) ≡ false → None ≡ passed shapes after
passed_none shapes before after same held e f =
    let tests = last_two (nat_lt 200000 (length (rows before P))) (nat_lt 200000 (role_rows shapes before)) (nat_lt 64 (pattern_rows shapes before)) (nat_lt 16384 (domain_pairs shapes before)) held in
    let none : None ≡ domain_limit shapes before = nothing _ _ tests.0 tests.1 in
    none ∙ sym (same_limit shapes before after same) ∙ passed_last shapes after e f
  where
    nothing : (c d : Bool) → c ≡ false → d ≡ false → None ≡ (if c then Some PatternRows else if d then Some Domains else None)
    nothing c d x y = rw (x, y) refl
