-- The line that tells an answer: its number, what is answered, and LF. Rules and edits have further lines, each behind two
-- blanks.
use Rattle.std.specs.Prelude.{◌≡◌, ℕ, Bool, true, false, List, [], ◌∷◌, ◌++◌, length, map, String, Option, Some, None, codes, decimal, flat_map, string_bytes, unwrap_or}
use Rattle.std.specs.declared.alloc.Global.{Global}
use Rattle.answer_lines.specs.declared.answer.Answer.{Answer}
use Rattle.answer_lines.specs.declared.answer.Answer.TheVariants as answer
use Rattle.answer_lines.specs.declared.answer.Line.{Line}
use Rattle.edit_calls.specs.declared.refused.CallRefused.{CallRefused}
use Rattle.edit_calls.specs.declared.refused.CallRefused.TheVariants as call
use Rattle.effect_fold.specs.declared.fault.Cause.{Cause}
use Rattle.effect_fold.specs.declared.fault.Cause.TheVariants as cause
use Rattle.effect_fold.specs.declared.fault.Fault.{Fault}
use Rattle.effect_fold.specs.declared.verdict.Verdict.{Verdict}
use Rattle.effect_fold.specs.declared.verdict.Verdict.TheVariants as verdict
use Rattle.perm_base.specs.FieldLine.{printed}
use Rattle.perm_base.specs.Fields.{IsBehind}
use Rattle.perm_base.specs.TableNames.{name_of}
use Rattle.perm_base.specs.declared.shapes.TableId.{TableId}
use Rattle.perm_value.specs.declared.request.RequestFault.{RequestFault}
use Rattle.perm_value.specs.declared.request.RequestFault.TheVariants as request
use Rattle.policy_query.specs.declared.refused.QueryRefused.{QueryRefused}
use Rattle.policy_query.specs.declared.refused.QueryRefused.TheVariants as query
use Rattle.policy_table.specs.Tables.{Fields}
use Rattle.policy_table.specs.declared.change.Change.{Change}
use Rattle.policy_table.specs.declared.limit.Limit.{Limit}
use Rattle.policy_table.specs.declared.limit.Limit.TheVariants as limit
use Rattle.version_log.specs.EditText.{change_items, item_lines}

-- these bytes were put behind the text
abbrev pub Appends : String Global → String Global → List ℕ → Type 0
Appends old new more = string_bytes new ≡ string_bytes old ++ more

-- what stood in the text stands there still, and more may stand behind it
abbrev pub IsKept : String Global → String Global → Type 0
IsKept old new = IsBehind (string_bytes old) (string_bytes new)

-- ---- verdicts

-- the place of a row, counted from 1, or none
abbrev pub place_text : Option ℕ → List ℕ
place_text None = codes "-"
place_text (Some row) = codes "p#" ++ decimal row

-- the same, and the rule that stands there
abbrev pub rule_text : Option ℕ → Option Fields → List ℕ
rule_text None rule = place_text None
rule_text (Some row) rule = place_text (Some row) ++ codes " " ++ printed (unwrap_or rule [])

-- why the evaluation of a matcher failed
abbrev pub cause_text : Cause → List ℕ
cause_text cause.Kind = codes "kind"
cause_text cause.NoAttribute = codes "no-attribute"
cause_text cause.Overflow = codes "overflow"
cause_text cause.ZeroDivisor = codes "zero-divisor"
cause_text cause.BadAddress = codes "bad-address"
cause_text cause.BadBlock = codes "bad-block"
cause_text cause.Pattern = codes "pattern"
cause_text cause.RuleText = codes "rule-text"

-- a fault and where it stands
abbrev pub fault_text : Fault → List ℕ
fault_text failed = cause_text failed.cause ++ codes " at " ++ decimal failed.at

-- a verdict of a version
abbrev pub verdict_text : ℕ → Verdict → Option Fields → List ℕ
verdict_text version (verdict.Allow row) rule = codes "allow @" ++ decimal version ++ codes " " ++ rule_text row rule
verdict_text version (verdict.Deny row) rule = codes "deny @" ++ decimal version ++ codes " " ++ rule_text row rule
verdict_text version (verdict.Fault row failed) rule = codes "fault @" ++ decimal version ++ codes " " ++ place_text row ++ codes " " ++ fault_text failed

-- ---- refusals

-- the name of a table
abbrev pub name_text : TableId → List ℕ
name_text table = unwrap_or (name_of table) []

-- another number of these than is wanted
abbrev pub wanted_text : ℕ → List ℕ → ℕ → List ℕ
wanted_text got these want = decimal got ++ codes " " ++ these ++ codes ", " ++ decimal want ++ codes " wanted"

-- the greatest number that a limit admits
abbrev pub most : Limit → ℕ
most limit.PolicyRows = 200000
most limit.RoleRows = 200000
most limit.PatternRows = 64
most limit.Domains = 16384
most limit.Edits = 4000000000

-- why a line is no request; want of memory is not told
abbrev pub request_text : RequestFault → List ℕ
request_text (request.Quote column) = codes "quote at " ++ decimal column
request_text request.TooMany = codes "more than 34 fields"
request_text request.Syntax = codes "not JSON"
request_text request.NotAnArray = codes "not an array"
request_text (request.TooDeep field) = codes "too deep in field " ++ decimal field
request_text (request.NotWhole field) = codes "not a whole number in field " ++ decimal field
request_text request.NoMemory = []

-- why a call is refused
abbrev pub call_text : CallRefused → List ℕ
call_text (call.NoTable table) = codes "no table " ++ name_text table
call_text (call.Columns want got) = wanted_text got (codes "columns") want
call_text call.FilterPlace = codes "filter place"
call_text call.EmptyFilter = codes "empty filter"
call_text call.FieldTooLong = codes "field too long"
call_text (call.Full what) = codes "full, limit " ++ decimal (most what)
call_text call.NoMemory = []

-- why a query is refused
abbrev pub query_text : QueryRefused → List ℕ
query_text (query.NoTable table) = codes "no table " ++ name_text table
query_text (query.Columns want got) = wanted_text got (codes "columns") want
query_text query.FilterPlace = codes "filter place"
query_text query.NoMemory = []
query_text (query.NoEdit version) = codes "no edit, version " ++ decimal version
query_text (query.Dropped start) = codes "dropped, start " ++ decimal start

-- ---- rules and edits

-- true or false
abbrev pub truth_text : Bool → List ℕ
truth_text true = codes "true"
truth_text false = codes "false"

-- a version, and the count or number of what follows
abbrev pub counted_text : List ℕ → ℕ → ℕ → List ℕ
counted_text word version count = word ++ codes " @" ++ decimal version ++ codes " " ++ decimal count ++ codes ":"

-- names, behind a blank where there are some
abbrev pub names_text : Fields → List ℕ
names_text [] = []
names_text (name ∷ names) = codes " " ++ printed (name ∷ names)

-- further lines of an answer, each behind LF and two blanks
abbrev pub further : List (List ℕ) → List ℕ
further lines = flat_map (λ (line : List ℕ). codes "\n  " ++ line) lines

-- the lines of rules, with the name of their table
abbrev pub rule_lines : List ℕ → List Fields → List (List ℕ)
rule_lines name rules = map (λ (rule : Fields). printed (name ∷ rule)) rules

-- the lines of an edit's text but the last, which says that it ends
abbrev pub change_lines : List Change → List (List ℕ)
change_lines changes = flat_map item_lines (flat_map change_items changes)

-- ---- lines

-- what is answered, without the LF at its end
abbrev pub answer_text : Answer → List ℕ
answer_text (answer.Decided version judged rule) = verdict_text version judged rule
answer_text (answer.Arity got want) = codes "refused: " ++ wanted_text got (codes "fields") want
answer_text (answer.Request fault) = codes "refused: " ++ request_text fault
answer_text (answer.Call refused) = codes "refused: " ++ call_text refused
answer_text (answer.Query refused) = codes "refused: " ++ query_text refused
answer_text (answer.Truth truth) = truth_text truth
answer_text (answer.Published version) = codes "published @" ++ decimal version
answer_text (answer.Synced version) = codes "synced @" ++ decimal version
answer_text (answer.Has version stands) = codes "has @" ++ decimal version ++ codes " " ++ truth_text stands
answer_text (answer.Rows version table rules) = counted_text (codes "rows") version (length rules) ++ further (rule_lines (name_text table) rules)
answer_text (answer.Roles version names) = counted_text (codes "roles") version (length names) ++ names_text names
answer_text (answer.Users version names) = counted_text (codes "users") version (length names) ++ names_text names
answer_text (answer.Kept count) = codes "kept " ++ decimal count
answer_text (answer.Recorded version number edit) = counted_text (codes "edit") version number ++ further (change_lines edit)

-- what is behind the number of a line
abbrev pub numbered : ℕ → List ℕ → List ℕ
numbered number told = decimal number ++ codes " " ++ told ++ codes "\n"

-- the line of a verdict
abbrev pub decided_text : ℕ → ℕ → Verdict → Option Fields → List ℕ
decided_text number version judged rule = numbered number (verdict_text version judged rule)

-- the line of an answer
abbrev pub line_text : Line → List ℕ
line_text line = numbered line.number (answer_text line.answer)
