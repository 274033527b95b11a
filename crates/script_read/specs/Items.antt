-- The item of a line that begins no block, by its word and what its arguments read as.
use Rattle.std.specs.Prelude.{ℕ, ◌&&◌, nat_le, nat_lt, List, [], ◌∷◌, length, codes, find, Option, Some, None, ok_or, option_and_then, Result, Ok, Err, if◌then◌else◌}
use Rattle.std.specs.Char.{is_ascii_digit}
use Rattle.std.specs.List.{list_all}
use Rattle.std.specs.Str.{bytes_eq}
use Rattle.std.specs.Str.Parse.{digits_value}
use Rattle.edit_calls.specs.declared.call.Call.{Call}
use Rattle.edit_calls.specs.declared.call.Call.TheVariants.{Add, Remove, RemoveFiltered, DeleteUser, DeleteRole}
use Rattle.perm_base.specs.TableNames.{table_named}
use Rattle.perm_base.specs.declared.shapes.TableId.{TableId}
use Rattle.perm_base.specs.declared.shapes.TableId.TheVariants.{P, G}
use Rattle.policy_table.specs.Tables.{Fields}
use Rattle.script_read.specs.Lines.{arguments_of, word_of}
use Rattle.script_read.specs.Results.{followed, mapped}
use Rattle.script_read.specs.Said.{Reading, Said, asks, edits, publishes, syncs, has, rows, roles, users, keeps, recalls}
use Rattle.script_read.specs.declared.fault.LineCause.{LineCause}
use Rattle.script_read.specs.declared.fault.LineCause.TheVariants as cause
use Rattle.script_read.specs.declared.word.CallVerb.{CallVerb}
use Rattle.script_read.specs.declared.word.CallVerb.TheVariants as call_verb
use Rattle.script_read.specs.declared.word.Verb.{Verb}
use Rattle.script_read.specs.declared.word.Verb.TheVariants as verb

-- what gives the fields of a text, and what gives the request that a line is
abbrev pub FieldReader : Type 0
FieldReader = List ℕ → Result Fields LineCause

abbrev pub RequestReader : Type 0
RequestReader = List ℕ → Reading

-- ---- the parts of arguments

-- the number that one to nine digits are; leading zeros are allowed
abbrev pub whole_number_of : List ℕ → Option ℕ
whole_number_of text = if nat_lt 0 (length text) && nat_le (length text) 9 && list_all is_ascii_digit text then Some (digits_value 10 text) else None

-- the table of this name
abbrev pub table_of : List ℕ → Result TableId LineCause
table_of name = ok_or (table_named name) cause.Table

-- the number of a role relation: of each table but p
abbrev pub relation_number : TableId → Option ℕ
relation_number P = None
relation_number (G number) = Some number

-- the number of the role relation of this name
abbrev pub relation_of : List ℕ → Result ℕ LineCause
relation_of name = ok_or (option_and_then relation_number (table_named name)) cause.Table

-- a number among the fields
abbrev pub numeral : List ℕ → Result ℕ LineCause
numeral text = ok_or (whole_number_of text) cause.Number

-- ---- what fields say together

-- TABLE, f..: a table and the fields of a rule, one or more
abbrev pub rule_of : Fields → Result (TableId × Fields) LineCause
rule_of (name ∷ field ∷ fields) = mapped (λ (table : TableId). (table, field ∷ fields)) (table_of name)
rule_of _ = Err cause.Fields

-- TABLE, AT, v..: a table, a place, and values from there on, one or more
abbrev pub filter_of : Fields → Result (TableId × ℕ × Fields) LineCause
filter_of (name ∷ place ∷ value ∷ values) = followed (table_of name) (λ (table : TableId). mapped (λ (at : ℕ). (table, at, value ∷ values)) (numeral place))
filter_of _ = Err cause.Fields

-- TABLE, or TABLE, AT, v..: a table alone is its rules from place 0 on, with no values
abbrev pub rows_of : Fields → Result (TableId × ℕ × Fields) LineCause
rows_of (name ∷ []) = mapped (λ (table : TableId). (table, 0, [])) (table_of name)
rows_of fields = filter_of fields

-- RELATION, NAME, or RELATION, NAME, DOMAIN
abbrev pub names_of : Fields → Result (ℕ × List ℕ × Option (List ℕ)) LineCause
names_of (relation ∷ name ∷ []) = mapped (λ (number : ℕ). (number, name, None)) (relation_of relation)
names_of (relation ∷ name ∷ domain ∷ []) = mapped (λ (number : ℕ). (number, name, Some domain)) (relation_of relation)
names_of _ = Err cause.Fields

-- NAME: exactly one field, which may be empty
abbrev pub name_of : Fields → Result (List ℕ) LineCause
name_of (name ∷ []) = Ok name
name_of _ = Err cause.Fields

-- COUNT or NUMBER
abbrev pub count_of : Fields → Result ℕ LineCause
count_of fields = followed (name_of fields) numeral

-- ---- the words whose arguments are fields

abbrev pub word_of_verb : Verb → List ℕ
word_of_verb (verb.Call call_verb.Add) = codes "add"
word_of_verb (verb.Call call_verb.Remove) = codes "remove"
word_of_verb (verb.Call call_verb.RemoveFiltered) = codes "remove-filtered"
word_of_verb (verb.Call call_verb.DeleteUser) = codes "delete-user"
word_of_verb (verb.Call call_verb.DeleteRole) = codes "delete-role"
word_of_verb verb.Has = codes "has"
word_of_verb verb.Rows = codes "rows"
word_of_verb verb.Roles = codes "roles"
word_of_verb verb.Users = codes "users"
word_of_verb verb.Keep = codes "keep"
word_of_verb verb.History = codes "history"

abbrev pub verbs : List Verb
verbs =
    verb.Call call_verb.Add ∷ verb.Call call_verb.Remove ∷ verb.Call call_verb.RemoveFiltered ∷ verb.Call call_verb.DeleteUser ∷ verb.Call call_verb.DeleteRole
    ∷ verb.Has ∷ verb.Rows ∷ verb.Roles ∷ verb.Users ∷ verb.Keep ∷ verb.History ∷ []

-- the call of such a word with these fields
abbrev pub verb_call : CallVerb → Fields → Result Call LineCause
verb_call call_verb.Add fields = mapped (λ (found : TableId × Fields). Add (found.0) (found.1)) (rule_of fields)
verb_call call_verb.Remove fields = mapped (λ (found : TableId × Fields). Remove (found.0) (found.1)) (rule_of fields)
verb_call call_verb.RemoveFiltered fields = mapped (λ (found : TableId × ℕ × Fields). RemoveFiltered (found.0) (found.1) (found.2)) (filter_of fields)
verb_call call_verb.DeleteUser fields = mapped (λ (name : List ℕ). DeleteUser name) (name_of fields)
verb_call call_verb.DeleteRole fields = mapped (λ (name : List ℕ). DeleteRole name) (name_of fields)

-- what a word says with these fields
abbrev pub verb_item : Verb → Fields → Result Said LineCause
verb_item (verb.Call word) fields = mapped (λ (call : Call). edits call) (verb_call word fields)
verb_item verb.Has fields = mapped (λ (found : TableId × Fields). has (found.0) (found.1)) (rule_of fields)
verb_item verb.Rows fields = mapped (λ (found : TableId × ℕ × Fields). rows (found.0) (found.1) (found.2)) (rows_of fields)
verb_item verb.Roles fields = mapped (λ (found : ℕ × List ℕ × Option (List ℕ)). roles (found.0) (found.1) (found.2)) (names_of fields)
verb_item verb.Users fields = mapped (λ (found : ℕ × List ℕ × Option (List ℕ)). users (found.0) (found.1) (found.2)) (names_of fields)
verb_item verb.Keep fields = mapped (λ (count : ℕ). keeps count) (count_of fields)
verb_item verb.History fields = mapped (λ (number : ℕ). recalls number) (count_of fields)

-- ---- a line

-- no arguments belong here: any that stand are read as fields all the same, and are too many
abbrev pub alone : {X : Type 0} → FieldReader → X → List ℕ → Result X LineCause
alone fields it [] = Ok it
alone fields it (byte ∷ bytes) = followed (fields (byte ∷ bytes)) (λ _. Err cause.Fields)

-- a word that takes fields, and its arguments
abbrev pub worded : FieldReader → Option Verb → List ℕ → Result Said LineCause
worded fields None arguments = Err cause.Word
worded fields (Some word) arguments = followed (fields arguments) (verb_item word)

-- a word and its arguments, as the reader of fields and that of requests read them
unfoldable pub word_item : FieldReader → RequestReader → List ℕ → List ℕ → Result Said LineCause
word_item fields request word arguments =
    if bytes_eq word (codes "ask") then Ok (asks (request arguments))
    else if bytes_eq word (codes "publish") then alone fields publishes arguments
    else if bytes_eq word (codes "sync") then alone fields syncs arguments
    else worded fields (find (λ (named : Verb). bytes_eq word (word_of_verb named)) verbs) arguments

-- a line
abbrev pub line_item : FieldReader → RequestReader → List ℕ → Result Said LineCause
line_item fields request line = word_item fields request (word_of line) (arguments_of line)
