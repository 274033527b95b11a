-- What a call that is not refused meets.
use Rattle.std.proofs.Common.{◌≡◌, ℕ, ◌+◌, ◌<◌, ◌≤◌, Bool, true, false, cond, ◌==◌, eqb, List, [], ◌∷◌, length, All, Option, Some, None, refl, sym, subst, ◌∙◌, arith}
use Rattle.std.specs.Prelude.{if◌then◌else◌, is_some, nat_lt}
use Rattle.std.specs.List.{AllByRecursion, list_all}
use Rattle.std.specs.Option.{option_map_or, option_or}
use Rattle.std.proofs.lemmas.Bool.{eqb-true, lt-ltb, ltb-false}
use Rattle.std.proofs.lemmas.List.Elements.{All-weaker, recursion_from_All}
use Rattle.std.proofs.lemmas.Option.{same_Some}
use Rattle.perm_base.specs.RoleShapes.{IsNumbered, shape_of}
use Rattle.perm_base.specs.Shapes.{AreValid}
use Rattle.perm_base.specs.declared.shapes.RoleShape.{RoleShape}
use Rattle.perm_base.specs.declared.shapes.Shapes.{Shapes}
use Rattle.perm_base.specs.declared.shapes.TableId.{TableId}
use Rattle.perm_base.specs.declared.shapes.TableId.TheVariants.{P, G}
use Rattle.policy_table.specs.Changes.{applies}
use Rattle.policy_table.specs.Tables.{Fields, IsKept, Policy, place, rows}
use Rattle.policy_table.specs.declared.change.Change.{Change}
use Rattle.policy_table.specs.Limits.{HaveShapes, columns_of, role_columns}
use Rattle.edit_calls.specs.Edits.{edit_by}
use Rattle.edit_calls.specs.Helps.Kept.{AreFitted}
use Rattle.edit_calls.specs.Refusals.{added_rules, bad_filter, filter_fault, has_long_field, named_rules, other_length, refusal, table_of}
use Rattle.edit_calls.specs.declared.call.Call.{Call}
use Rattle.edit_calls.specs.declared.call.Call.TheVariants.{Add, AddAll, AddEx, Remove, RemoveAll, Update, RemoveFiltered, UpdateFiltered, DeleteUser, DeleteRole}
use Rattle.edit_calls.specs.declared.refused.CallRefused.{CallRefused}
use Rattle.edit_calls.proofs.ApplyLemmas.{edit_applies}
use Rattle.edit_calls.specs.declared.refused.CallRefused.TheVariants.{EmptyFilter, FieldTooLong, FilterPlace, NoTable}

-- the table of a call that is not refused has columns, and its filter lies within them
has_columns : (shapes : Shapes) (call : Call) → refusal shapes call ≡ None → (columns : ℕ) × (columns_of shapes (table_of call) ≡ Some columns) × (filter_fault columns call ≡ None)
has_columns shapes call passes = by (columns_of shapes (table_of call)) passes
  where
    late : ℕ → Option CallRefused
    late columns = if has_long_field (added_rules call) then Some FieldTooLong else None

    second : (first filter last : Option CallRefused) → option_or first (option_or filter last) ≡ None → filter ≡ None
    second None None last is = refl
    second None (Some refused) last is = absurd cc
    second (Some refused) filter last is = absurd cc

    by : (p : Option ℕ) → option_map_or (λ (columns : ℕ). option_or (other_length columns (named_rules call)) (option_or (filter_fault columns call) (late columns))) p (Some (NoTable (table_of call))) ≡ None
        → (columns : ℕ) × (p ≡ Some columns) × (filter_fault columns call ≡ None)
    by None is = absurd cc
    by (Some columns) is = (columns, refl, second (other_length columns (named_rules call)) (filter_fault columns call) (late columns) is)

-- a relation that is found has a number from 1 to 8
numbered : (roles : List RoleShape) (number : ℕ) (shape : RoleShape) → AllByRecursion IsNumbered roles → shape_of roles number ≡ Some shape → (0 < number) × (number ≤ 8)
numbered [] number shape each found = absurd cc
numbered (role ∷ roles) number shape each found = by_test (eqb role.number number) refl found (numbered roles number shape each.1)
  where
    by_test : (test : Bool) → eqb role.number number ≡ test → cond test (Some role) (shape_of roles number) ≡ Some shape → (shape_of roles number ≡ Some shape → (0 < number) × (number ≤ 8)) → (0 < number) × (number ≤ 8)
    by_test true e is rest =
        let same : role.number ≡ number = eqb-true role.number number e in
        (subst (λ n. 0 < n) same each.0.some, subst (λ n. n ≤ 8) same each.0.few)
    by_test false e is rest = rest is

-- and so its table has a place
pub has_place : (shapes : Shapes) (call : Call) → AreValid shapes → refusal shapes call ≡ None → is_some (place (table_of call)) ≡ true
has_place shapes call valid passes = by (table_of call) (has_columns shapes call passes).1
  where
    columns : ℕ
    columns = (has_columns shapes call passes).0

    here : (number : ℕ) → 0 < number → number ≤ 8 → is_some (place (G number)) ≡ true
    here number some few = rw (lt-ltb 0 number some, lt-ltb number 9 (omega (arith, few))) refl

    found : (number : ℕ) (p : Option RoleShape) → shape_of shapes.roles number ≡ p → option_map_or (λ (shape : RoleShape). Some (role_columns shape)) p None ≡ Some columns → is_some (place (G number)) ≡ true
    found number None e is = absurd cc
    found number (Some shape) e is =
        let within = numbered shapes.roles number shape (recursion_from_All IsNumbered shapes.roles valid.roles.each) e in
        here number within.0 within.1

    by : (table : TableId) → columns_of shapes table ≡ Some columns → is_some (place table) ≡ true
    by P is = refl
    by (G number) is = found number (shape_of shapes.roles number) refl is

-- the rules of a table have its columns
have_length : (shapes : Shapes) (policy : Policy) (table : TableId) (columns : ℕ) → HaveShapes shapes policy → columns_of shapes table ≡ Some columns → All (λ (rule : Fields). columns ≡ length rule) (rows policy table)
have_length shapes policy table columns shaped is =
    All-weaker (λ (rule : Fields). columns_of shapes table ≡ Some (length rule)) (λ (rule : Fields). columns ≡ length rule) (λ rule e. same_Some columns (length rule) (sym is ∙ e)) (rows policy table) (shaped.columns table)

-- a filter without a fault lies within the columns
filter_within : (columns at : ℕ) (values : Fields) → bad_filter columns at values ≡ None → at + length values ≤ columns
filter_within columns at values is = by_test (nat_lt columns (at + length values)) refl is
  where
    by_test : (test : Bool) → nat_lt columns (at + length values) ≡ test → (if test then Some FilterPlace else (if list_all (λ (value : List ℕ). length value == 0) values then Some EmptyFilter else None)) ≡ None → at + length values ≤ columns
    by_test true e fault = absurd cc
    by_test false e fault = ltb-false columns (at + length values) e

-- the relation g has two columns or three
two_columns : (shapes : Shapes) (columns : ℕ) → columns_of shapes (G 1) ≡ Some columns → 1 < columns
two_columns shapes columns is = by (shape_of shapes.roles 1) is
  where
    of_test : (test : Bool) → (if test then 3 else 2) ≡ columns → 1 < columns
    of_test true e = subst (λ n. 1 < n) e (omega arith)
    of_test false e = subst (λ n. 1 < n) e (omega arith)

    by : (p : Option RoleShape) → option_map_or (λ (shape : RoleShape). Some (role_columns shape)) p None ≡ Some columns → 1 < columns
    by None e = absurd cc
    by (Some shape) e = of_test shape.with_domain (same_Some (role_columns shape) columns e)

-- a call that is not refused fits the tables
pub fitted : (shapes : Shapes) (policy : Policy) (call : Call) → AreValid shapes → HaveShapes shapes policy → refusal shapes call ≡ None → AreFitted shapes policy call
fitted shapes policy call valid shaped passes = by call (has_columns shapes call passes)
  where
    within : (table : TableId) (columns at : ℕ) (values : Fields) → columns_of shapes table ≡ Some columns → bad_filter columns at values ≡ None → All (λ (rule : Fields). at + length values ≤ length rule) (rows policy table)
    within table columns at values is fault =
        All-weaker (λ (rule : Fields). columns ≡ length rule) (λ (rule : Fields). at + length values ≤ length rule) (λ rule e. subst (λ n. at + length values ≤ n) e (filter_within columns at values fault)) (rows policy table) (have_length shapes policy table columns shaped is)

    names : (columns : ℕ) → columns_of shapes (G 1) ≡ Some columns → All (λ (rule : Fields). 1 < length rule) (rows policy (G 1))
    names columns is =
        All-weaker (λ (rule : Fields). columns ≡ length rule) (λ (rule : Fields). 1 < length rule) (λ rule e. subst (λ n. 1 < n) e (two_columns shapes columns is)) (rows policy (G 1)) (have_length shapes policy (G 1) columns shaped is)

    subjects : All (λ (rule : Fields). shapes.subject_column < length rule) (rows policy P)
    subjects =
        All-weaker (λ (rule : Fields). shapes.columns ≡ length rule) (λ (rule : Fields). shapes.subject_column < length rule) (λ rule e. subst (λ n. shapes.subject_column < n) e valid.subject) (rows policy P) (have_length shapes policy P shapes.columns shaped refl)

    by : (c : Call) → ((columns : ℕ) × (columns_of shapes (table_of c) ≡ Some columns) × (filter_fault columns c ≡ None)) → AreFitted shapes policy c
    by (Add table rule) found = tt
    by (AddAll table rules) found = tt
    by (AddEx table rules) found = tt
    by (Remove table rule) found = tt
    by (RemoveAll table rules) found = tt
    by (Update table pairs) found = tt
    by (RemoveFiltered table at values) found = within table found.0 at values found.1 found.2
    by (UpdateFiltered table at values rules) found = within table found.0 at values found.1 found.2
    by (DeleteUser name) found = (names found.0 found.1, subjects)
    by (DeleteRole name) found = (names found.0 found.1, subjects)

-- the edit of a call that is not refused can be made
pub may_be_made : (shapes : Shapes) (policy : Policy) (call : Call) (edit : List Change) → AreValid shapes → IsKept policy → refusal shapes call ≡ None → edit_by shapes policy call ≡ Some edit
    → applies edit policy ≡ true
may_be_made shapes policy call edit valid kept passes found =
    edit_applies shapes policy call edit kept.lists.counted (kept.once (table_of call)) (kept.once P) (has_place shapes call valid passes) found
