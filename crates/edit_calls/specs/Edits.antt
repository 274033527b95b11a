-- What a management call changes (Casbin, policy and role management API).
use Rattle.std.specs.Prelude.{ℕ, Bool, false, not, ◌==◌, ◌||◌, List, [], ◌∷◌, ◌++◌, length, map, filter, Option, Some, None, if◌then◌else◌, get_or}
use Rattle.std.specs.List.{list_any}
use Rattle.std.specs.Str.{bytes_eq}
use Rattle.perm_base.specs.declared.shapes.Shapes.{Shapes}
use Rattle.perm_base.specs.declared.shapes.TableId.{TableId}
use Rattle.perm_base.specs.declared.shapes.TableId.TheVariants.{P, G}
use Rattle.policy_table.specs.Filters.{fits_filter}
use Rattle.policy_table.specs.Tables.{Fields, Policy, rows, stands}
use Rattle.policy_table.specs.declared.change.Change.{Change}
use Rattle.policy_table.specs.declared.change.Change.TheVariants as change
use Rattle.edit_calls.specs.declared.call.Call.{Call}
use Rattle.edit_calls.specs.declared.call.Call.TheVariants.{Add, AddAll, AddEx, Remove, RemoveAll, Update, RemoveFiltered, UpdateFiltered, DeleteUser, DeleteRole}

-- a rule is named twice
unfoldable pub has_repeat : List Fields → Bool
has_repeat [] = false
has_repeat (rule ∷ rules) = stands rule rules || has_repeat rules

-- one of the rules stands; one is absent
abbrev pub one_stands : List Fields → List Fields → Bool
one_stands named rules = list_any (λ (rule : Fields). stands rule rules) named

abbrev pub one_is_absent : List Fields → List Fields → Bool
one_is_absent named rules = list_any (λ (rule : Fields). not (stands rule rules)) named

abbrev pub is_empty : {X : Type 0} → List X → Bool
is_empty items = length items == 0

abbrev pub inserts : TableId → List Fields → List Change
inserts table rules = map (λ (rule : Fields). change.Insert table rule) rules

abbrev pub removes : TableId → List Fields → List Change
removes table rules = map (λ (rule : Fields). change.Remove table rule) rules

-- the changes, unless the call changes nothing
abbrev pub unless : Bool → List Change → Option (List Change)
unless nothing changes = if nothing then None else Some changes

-- the rules whose field in a column is the name
abbrev pub rows_with : ℕ → List ℕ → List Fields → List Fields
rows_with column name rules = filter (λ (rule : Fields). bytes_eq name (get_or rule column [])) rules

-- the rules that fit a filter; a rule that stands and does not fit it
abbrev pub fitting : ℕ → Fields → List Fields → List Fields
fitting at values rules = filter (λ (rule : Fields). fits_filter rule at values) rules

abbrev pub one_stays : ℕ → Fields → List Fields → List Fields → Bool
one_stays at values named rules = one_stands named (filter (λ (rule : Fields). not (fits_filter rule at values)) rules)

-- the rules of a column of g, and then those of p whose subject it is, that have the name
abbrev pub without_name : ℕ → Shapes → Policy → List ℕ → List Change
without_name column shapes policy name = removes (G 1) (rows_with column name (rows policy (G 1))) ++ removes P (rows_with shapes.subject_column name (rows policy P))

-- what a call changes, by the table's rules; None where it changes nothing
abbrev pub edit_by : Shapes → Policy → Call → Option (List Change)
edit_by shapes policy (Add table rule) = unless (stands rule (rows policy table)) (inserts table (rule ∷ []))
edit_by shapes policy (AddAll table rules) = unless (is_empty rules || has_repeat rules || one_stands rules (rows policy table)) (inserts table rules)
edit_by shapes policy (AddEx table rules) = unless (has_repeat rules || not (one_is_absent rules (rows policy table))) (inserts table (filter (λ (rule : Fields). not (stands rule (rows policy table))) rules))
edit_by shapes policy (Remove table rule) = unless (not (stands rule (rows policy table))) (removes table (rule ∷ []))
edit_by shapes policy (RemoveAll table rules) = unless (is_empty rules || has_repeat rules || one_is_absent rules (rows policy table)) (removes table rules)
edit_by shapes policy (Update table pairs) = unless
    (is_empty pairs || one_is_absent (map (λ (pair : Fields × Fields). pair.0) pairs) (rows policy table) || one_stands (map (λ (pair : Fields × Fields). pair.1) pairs) (rows policy table)
    || has_repeat (map (λ (pair : Fields × Fields). pair.0) pairs) || has_repeat (map (λ (pair : Fields × Fields). pair.1) pairs))
    (map (λ (pair : Fields × Fields). change.Replace table pair.0 pair.1) pairs)
edit_by shapes policy (RemoveFiltered table at values) = unless (is_empty (fitting at values (rows policy table))) (removes table (fitting at values (rows policy table)))
edit_by shapes policy (UpdateFiltered table at values rules) = unless
    (is_empty (fitting at values (rows policy table)) || has_repeat rules || one_stays at values rules (rows policy table))
    (removes table (fitting at values (rows policy table)) ++ inserts table rules)
edit_by shapes policy (DeleteUser name) = unless (is_empty (without_name 0 shapes policy name)) (without_name 0 shapes policy name)
edit_by shapes policy (DeleteRole name) = unless (is_empty (without_name 1 shapes policy name)) (without_name 1 shapes policy name)
