-- Why a management call is refused, whatever stands in the tables.
use Rattle.std.specs.Prelude.{ℕ, Bool, not, ◌+◌, ◌==◌, nat_lt, List, [], ◌∷◌, length, map, Option, Some, None, if◌then◌else◌, find}
use Rattle.std.specs.List.{flat_map, list_all, list_any}
use Rattle.std.specs.Option.{option_map_or, option_or}
use Rattle.perm_base.specs.declared.shapes.Shapes.{Shapes}
use Rattle.perm_base.specs.declared.shapes.TableId.{TableId}
use Rattle.perm_base.specs.declared.shapes.TableId.TheVariants.{G}
use Rattle.policy_table.specs.Tables.{Fields}
use Rattle.policy_table.specs.Limits.{columns_of, has_short_fields}
use Rattle.edit_calls.specs.declared.call.Call.{Call}
use Rattle.edit_calls.specs.declared.call.Call.TheVariants.{Add, AddAll, AddEx, Remove, RemoveAll, Update, RemoveFiltered, UpdateFiltered, DeleteUser, DeleteRole}
use Rattle.edit_calls.specs.declared.refused.CallRefused.{CallRefused}
use Rattle.edit_calls.specs.declared.refused.CallRefused.TheVariants.{NoTable, Columns, FilterPlace, EmptyFilter, FieldTooLong}

-- the table of a call; to delete a user or a role needs g
abbrev pub table_of : Call → TableId
table_of (Add table rule) = table
table_of (AddAll table rules) = table
table_of (AddEx table rules) = table
table_of (Remove table rule) = table
table_of (RemoveAll table rules) = table
table_of (Update table pairs) = table
table_of (RemoveFiltered table at values) = table
table_of (UpdateFiltered table at values rules) = table
table_of (DeleteUser name) = G 1
table_of (DeleteRole name) = G 1

-- the rules that a call names, in their order
abbrev pub named_rules : Call → List Fields
named_rules (Add table rule) = rule ∷ []
named_rules (AddAll table rules) = rules
named_rules (AddEx table rules) = rules
named_rules (Remove table rule) = rule ∷ []
named_rules (RemoveAll table rules) = rules
named_rules (Update table pairs) = flat_map (λ (pair : Fields × Fields). pair.0 ∷ pair.1 ∷ []) pairs
named_rules (RemoveFiltered table at values) = []
named_rules (UpdateFiltered table at values rules) = rules
named_rules (DeleteUser name) = []
named_rules (DeleteRole name) = []

-- the rules that a call is to add
abbrev pub added_rules : Call → List Fields
added_rules (Add table rule) = rule ∷ []
added_rules (AddAll table rules) = rules
added_rules (AddEx table rules) = rules
added_rules (Remove table rule) = []
added_rules (RemoveAll table rules) = []
added_rules (Update table pairs) = map (λ (pair : Fields × Fields). pair.1) pairs
added_rules (RemoveFiltered table at values) = []
added_rules (UpdateFiltered table at values rules) = rules
added_rules (DeleteUser name) = []
added_rules (DeleteRole name) = []

-- the first rule with another number of columns
abbrev pub other_length : ℕ → List Fields → Option CallRefused
other_length columns rules = option_map_or (λ (rule : Fields). Some (Columns columns (length rule))) (find (λ (rule : Fields). not (length rule == columns)) rules) None

-- a filter that goes past the columns, or leaves all of them open
abbrev pub bad_filter : ℕ → ℕ → Fields → Option CallRefused
bad_filter columns at values =
    if nat_lt columns (at + length values) then Some FilterPlace
    else if list_all (λ (value : List ℕ). length value == 0) values then Some EmptyFilter
    else None

-- the filter of a call
abbrev pub filter_fault : ℕ → Call → Option CallRefused
filter_fault columns (Add table rule) = None
filter_fault columns (AddAll table rules) = None
filter_fault columns (AddEx table rules) = None
filter_fault columns (Remove table rule) = None
filter_fault columns (RemoveAll table rules) = None
filter_fault columns (Update table pairs) = None
filter_fault columns (RemoveFiltered table at values) = bad_filter columns at values
filter_fault columns (UpdateFiltered table at values rules) = bad_filter columns at values
filter_fault columns (DeleteUser name) = None
filter_fault columns (DeleteRole name) = None

-- a field of one of the rules has more than 4,096 bytes
abbrev pub has_long_field : List Fields → Bool
has_long_field rules = list_any (λ (rule : Fields). not (has_short_fields rule)) rules

-- the first refusal that needs no look into the tables
abbrev pub refusal : Shapes → Call → Option CallRefused
refusal shapes call = option_map_or
    (λ (columns : ℕ). option_or (other_length columns (named_rules call))
    (option_or (filter_fault columns call) (if has_long_field (added_rules call) then Some FieldTooLong else None)))
    (columns_of shapes (table_of call)) (Some (NoTable (table_of call)))
