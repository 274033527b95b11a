-- The edits of calls that are not refused keep the tables sound.
use Rattle.std.proofs.Common.{◌≡◌, ℕ, Bool, true, false, not, ◌==◌}
use Rattle.std.proofs.Common.{List, [], ◌∷◌, ◌++◌, length, filter, find, flat_map, All, Option, Some, None, refl, sym, ap, subst, ◌∙◌, true≢false}
use Rattle.std.specs.Prelude.{if◌then◌else◌, IsTrue}
use Rattle.std.specs.Option.{option_map_or, option_or}
use Rattle.std.proofs.lemmas.Bool.{eqb-true, or_parts}
use Rattle.std.proofs.lemmas.List.Elements.{All-cons, All-filter, All-head, All-nil, All-tail, All-weaker}
use Rattle.perm_base.specs.declared.shapes.Shapes.{Shapes}
use Rattle.perm_base.specs.declared.shapes.TableId.{TableId}
use Rattle.perm_base.specs.declared.shapes.TableId.TheVariants.{P, G}
use Rattle.policy_table.proofs.CallerLemmas.{PutAll, shapes_edited, short_edited}
use Rattle.policy_table.specs.Changes.{edited}
use Rattle.policy_table.specs.Limits.{AreSound, HaveShapes, columns_of, has_short_fields, passed}
use Rattle.policy_table.specs.Tables.{Fields, Policy, rows, stands}
use Rattle.policy_table.specs.declared.change.Change.{Change}
use Rattle.edit_calls.specs.Edits.{edit_by, fitting, inserts, removes, rows_with, unless, without_name}
use Rattle.edit_calls.specs.Refusals.{added_rules, filter_fault, has_long_field, named_rules, other_length, refusal, table_of as call_table}
use Rattle.edit_calls.specs.declared.call.Call.{Call}
use Rattle.edit_calls.specs.declared.call.Call.TheVariants.{Add, AddAll, AddEx, Remove, RemoveAll, Update, RemoveFiltered, UpdateFiltered, DeleteUser, DeleteRole}
use Rattle.edit_calls.specs.declared.refused.CallRefused.{CallRefused}
use Rattle.edit_calls.specs.declared.refused.CallRefused.TheVariants.{Columns, FieldTooLong, NoTable}
use Rattle.edit_calls.proofs.ApplyLemmas.{edit_of, news_of, replaces}

-- what the edit of a call puts in has a property of all rules that the call is to add
module _ (R : TableId → Fields → Type 0) where
  PutAll-append : (front back : List Change) → PutAll R front → PutAll R back → PutAll R (front ++ back)
  PutAll-append [] back _ put = put
  PutAll-append (first ∷ front) back put more = (put.0, PutAll-append front back put.1 more)

  inserts_put : (table : TableId) (rules : List Fields) → All (R table) rules → PutAll R (inserts table rules)
  inserts_put table [] all = tt
  inserts_put table (rule ∷ rules) all = (All-head (R table) rule rules all, inserts_put table rules (All-tail (R table) rule rules all))

  removes_put : (table : TableId) (rules : List Fields) → PutAll R (removes table rules)
  removes_put table [] = tt
  removes_put table (rule ∷ rules) = (tt, removes_put table rules)

  replaces_put : (table : TableId) (pairs : List (Fields × Fields)) → All (R table) (news_of pairs) → PutAll R (replaces table pairs)
  replaces_put table [] all = tt
  replaces_put table (pair ∷ pairs) all = (All-head (R table) pair.1 (news_of pairs) all, replaces_put table pairs (All-tail (R table) pair.1 (news_of pairs) all))

  edit_puts : (nothing : Bool) (changes edit : List Change) → unless nothing changes ≡ Some edit → PutAll R changes → PutAll R edit
  edit_puts nothing changes edit is put = subst (PutAll R) (edit_of nothing changes edit is).1 put

  names_put : (column : ℕ) (shapes : Shapes) (policy : Policy) (name : List ℕ) → PutAll R (without_name column shapes policy name)
  names_put column shapes policy name =
      let links = rows_with column name (rows policy (G 1)) in
      let subjects = rows_with shapes.subject_column name (rows policy P) in
      PutAll-append (removes (G 1) links) (removes P subjects) (removes_put (G 1) links) (removes_put P subjects)

  pub added_put : (shapes : Shapes) (policy : Policy) (call : Call) (edit : List Change) → All (R (call_table call)) (added_rules call) → edit_by shapes policy call ≡ Some edit → PutAll R edit
  added_put shapes policy (Add table rule) edit all is = edit_puts _ _ edit is (inserts_put table (rule ∷ []) all)
  added_put shapes policy (AddAll table rules) edit all is = edit_puts _ _ edit is (inserts_put table rules all)
  added_put shapes policy (AddEx table rules) edit all is =
      let absent : Fields → Bool = λ rule. not (stands rule (rows policy table)) in
      edit_puts _ _ edit is (inserts_put table (filter absent rules) (All-filter absent (R table) rules all))
  added_put shapes policy (Remove table rule) edit all is = edit_puts _ _ edit is (removes_put table (rule ∷ []))
  added_put shapes policy (RemoveAll table rules) edit all is = edit_puts _ _ edit is (removes_put table rules)
  added_put shapes policy (Update table pairs) edit all is = edit_puts _ _ edit is (replaces_put table pairs all)
  added_put shapes policy (RemoveFiltered table at values) edit all is = edit_puts _ _ edit is (removes_put table (fitting at values (rows policy table)))
  added_put shapes policy (UpdateFiltered table at values rules) edit all is =
      let gone = fitting at values (rows policy table) in
      edit_puts _ _ edit is (PutAll-append (removes table gone) (inserts table rules) (removes_put table gone) (inserts_put table rules all))
  added_put shapes policy (DeleteUser name) edit all is = edit_puts _ _ edit is (names_put 0 shapes policy name)
  added_put shapes policy (DeleteRole name) edit all is = edit_puts _ _ edit is (names_put 1 shapes policy name)

-- the rule has as many fields as its table has columns
abbrev pub Fits : Shapes → TableId → Fields → Type 0
Fits shapes table rule = columns_of shapes table ≡ Some (length rule)

-- where no rule has another length, all fit
all_have_length : (columns : ℕ) (rules : List Fields) → find (λ (rule : Fields). not (length rule == columns)) rules ≡ None → All (λ (rule : Fields). columns ≡ length rule) rules
all_have_length columns [] none = All-nil (λ (rule : Fields). columns ≡ length rule)
all_have_length columns (x ∷ xs) none = by (length x == columns) refl none (all_have_length columns xs)
  where
    by : (b : Bool) → (length x == columns) ≡ b → (if not b then Some x else find (λ (rule : Fields). not (length rule == columns)) xs) ≡ None
        → (find (λ (rule : Fields). not (length rule == columns)) xs ≡ None → All (λ (rule : Fields). columns ≡ length rule) xs) → All (λ (rule : Fields). columns ≡ length rule) (x ∷ xs)
    by true e rest all = All-cons (λ (rule : Fields). columns ≡ length rule) x xs (sym (eqb-true (length x) columns e)) (all rest)
    by false e rest all = absurd cc

-- where there is no refusal, the table has columns, and the first test finds nothing
none_refused : (first rest : ℕ → Option CallRefused) (p : Option ℕ) (refused : CallRefused) → option_map_or (λ (columns : ℕ). option_or (first columns) (rest columns)) p (Some refused) ≡ None
    → (columns : ℕ) × (p ≡ Some columns) × (first columns ≡ None)
none_refused first rest None refused e = absurd cc
none_refused first rest (Some columns) refused e = (columns, refl, by (first columns) e)
  where
    by : (r : Option CallRefused) → option_or r (rest columns) ≡ None → r ≡ None
    by None is = refl
    by (Some r) is = absurd cc

-- none has another length, where none is told
none_other : (columns : ℕ) (rules : List Fields) → other_length columns rules ≡ None → All (λ (rule : Fields). columns ≡ length rule) rules
none_other columns rules e = all_have_length columns rules (by (find (λ (rule : Fields). not (length rule == columns)) rules) e)
  where
    by : (p : Option Fields) → option_map_or (λ (rule : Fields). Some (Columns columns (length rule))) p None ≡ None → p ≡ None
    by None is = refl
    by (Some rule) is = absurd cc

-- the rules that a call names fit its table, where it is not refused
named_fit : (shapes : Shapes) (call : Call) → refusal shapes call ≡ None → All (Fits shapes (call_table call)) (named_rules call)
named_fit shapes call passes =
    let found = none_refused (λ (columns : ℕ). other_length columns (named_rules call))
    (λ (columns : ℕ). option_or (filter_fault columns call) (if has_long_field (added_rules call) then Some FieldTooLong else None))
    (columns_of shapes (call_table call)) (NoTable (call_table call)) passes in
    All-weaker (λ (rule : Fields). found.0 ≡ length rule) (Fits shapes (call_table call)) (λ rule e. found.1 ∙ ap Some e) (named_rules call) (none_other found.0 (named_rules call) found.2)

-- the new rules of pairs are among their rules
news_among : (R : Fields → Type 0) (pairs : List (Fields × Fields)) → All R (flat_map (λ (pair : Fields × Fields). pair.0 ∷ pair.1 ∷ []) pairs) → All R (news_of pairs)
news_among R [] all = All-nil R
news_among R (pair ∷ pairs) all =
    let rest : List Fields = flat_map (λ (each : Fields × Fields). each.0 ∷ each.1 ∷ []) pairs in
    let after : All R (pair.1 ∷ rest) = All-tail R pair.0 (pair.1 ∷ rest) all in
    All-cons R pair.1 (news_of pairs) (All-head R pair.1 rest after) (news_among R pairs (All-tail R pair.1 rest after))

-- the rules that a call is to add are among those that it names
added_among : (R : Fields → Type 0) (call : Call) → All R (named_rules call) → All R (added_rules call)
added_among R (Add table rule) all = all
added_among R (AddAll table rules) all = all
added_among R (AddEx table rules) all = all
added_among R (Remove table rule) all = All-nil R
added_among R (RemoveAll table rules) all = All-nil R
added_among R (Update table pairs) all = news_among R pairs all
added_among R (RemoveFiltered table at values) all = all
added_among R (UpdateFiltered table at values rules) all = all
added_among R (DeleteUser name) all = all
added_among R (DeleteRole name) all = all

-- the rules that a call is to add fit its table, where it is not refused
pub added_fit : (shapes : Shapes) (call : Call) → refusal shapes call ≡ None → All (Fits shapes (call_table call)) (added_rules call)
added_fit shapes call passes = added_among (Fits shapes (call_table call)) call (named_fit shapes call passes)

-- the edit of a call that is not refused keeps the shapes of the tables
pub edit_keeps_shapes : (shapes : Shapes) (policy : Policy) (call : Call) (edit : List Change) → HaveShapes shapes policy → refusal shapes call ≡ None
    → edit_by shapes policy call ≡ Some edit → HaveShapes shapes (edited edit policy)
edit_keeps_shapes shapes policy call edit have passes is = shapes_edited shapes edit policy (added_put (Fits shapes) shapes policy call edit (added_fit shapes call passes) is) have

-- no rule that a call is to add has a long field, where it is not refused
none_too_long : (shapes : Shapes) (call : Call) → refusal shapes call ≡ None → has_long_field (added_rules call) ≡ false
none_too_long shapes call passes = by (columns_of shapes (call_table call)) passes
  where
    last : (first filter : Option CallRefused) (long : Bool) → option_or first (option_or filter (if long then Some FieldTooLong else None)) ≡ None → long ≡ false
    last None None true is = absurd cc
    last None None false is = refl
    last None (Some refused) long is = absurd cc
    last (Some refused) filter long is = absurd cc

    by : (p : Option ℕ) → option_map_or (λ (columns : ℕ). option_or (other_length columns (named_rules call)) (option_or (filter_fault columns call) (if has_long_field (added_rules call) then Some FieldTooLong else None))) p (Some (NoTable (call_table call))) ≡ None
        → has_long_field (added_rules call) ≡ false
    by None is = absurd cc
    by (Some columns) is = last (other_length columns (named_rules call)) (filter_fault columns call) (has_long_field (added_rules call)) is

-- the rule has no long field
abbrev pub IsShort : Fields → Type 0
IsShort rule = IsTrue (has_short_fields rule)

-- where no rule has a long field, all their fields are short
all_short : (rules : List Fields) → has_long_field rules ≡ false → All IsShort rules
all_short [] none = All-nil IsShort
all_short (rule ∷ rules) none =
    let parts = or_parts (not (has_short_fields rule)) (has_long_field rules) none in
    All-cons IsShort rule rules (by (has_short_fields rule) parts.0) (all_short rules parts.1)
  where
    by : (b : Bool) → not b ≡ false → IsTrue b
    by true e = refl
    by false e = absurd (true≢false e)

-- nor has one of them, where it is not refused
pub added_short : (shapes : Shapes) (call : Call) → refusal shapes call ≡ None → All IsShort (added_rules call)
added_short shapes call passes = all_short (added_rules call) (none_too_long shapes call passes)

-- the edit of a call that is not refused leaves sound tables, where they pass no limit after it
pub edit_keeps_sound : (shapes : Shapes) (policy : Policy) (call : Call) (edit : List Change) → AreSound shapes policy → refusal shapes call ≡ None
    → edit_by shapes policy call ≡ Some edit → passed shapes (edited edit policy) ≡ None → AreSound shapes (edited edit policy)
edit_keeps_sound shapes policy call edit sound passes is none = record {
  shaped = edit_keeps_shapes shapes policy call edit sound.shaped passes is;
  short = short_edited edit policy (added_put (λ (table : TableId) (rule : Fields). IsShort rule) shapes policy call edit (added_short shapes call passes) is) sound.short;
  within = none;
}
