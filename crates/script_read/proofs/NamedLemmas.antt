-- The items that a text says name tables that have names, and no want of memory.
use Rattle.std.proofs.Common.{◌≡◌, ◌≢◌, ℕ, ◌+◌, Bool, true, false, List, [], ◌∷◌, map, Option, Some, None, Result, Ok, Err, refl, sym, ap, subst}
use Rattle.std.specs.Prelude.{codes, find, if◌then◌else◌, is_some, ok_or, option_and_then, option_map, nat_le, nat_lt, ⊤}
use Rattle.std.specs.List.{AllByRecursion}
use Rattle.std.specs.Option.{unwrap_or}
use Rattle.std.specs.Str.{bytes_eq}
use Rattle.edit_calls.specs.Refusals.{table_of as call_table}
use Rattle.edit_calls.specs.declared.call.Call.{Call}
use Rattle.edit_calls.specs.declared.call.Call.TheVariants as call
use Rattle.perm_base.proofs.CallerLemmas.{name_from_named}
use Rattle.perm_base.specs.TableNames.{table_named}
use Rattle.perm_base.specs.declared.shapes.TableId.{TableId}
use Rattle.perm_base.specs.declared.shapes.TableId.TheVariants.{P, G}
use Rattle.perm_value.specs.Datum.{Datum}
use Rattle.perm_value.specs.Json.{datum_of, member_value, most_levels, most_values, onto_answers, values_from, values_of}
use Rattle.perm_value.specs.declared.request.RequestFault.{RequestFault}
use Rattle.perm_value.specs.declared.request.RequestFault.TheVariants as fault
use Rattle.policy_table.specs.Tables.{Fields}
use Rattle.serde_json.specs.Data as json
use Rattle.serde_json.specs.Events.{items_len}
use Rattle.serde_json.specs.Read.{read}
use Rattle.script_read.specs.Blocks.{Part, single, block, at_line, block_call, block_of, block_of_word, call_of, ended_block, filtered, inner_rule, of_block, of_plain, pairs_of, parts, part_item, plain_block, rule_before, rule_in, rules_of, same_table, table_of_block}
use Rattle.script_read.specs.Items.{FieldReader, RequestReader, alone, count_of, filter_of, line_item, name_of, names_of, numeral, relation_number, relation_of, rows_of, rule_of, table_of, verb_call, verb_item, verbs, word_item, word_of_verb, worded}
use Rattle.script_read.specs.Lines.{arguments_of, requests_of, script_lines, word_of}
use Rattle.script_read.specs.Reads.{Reader, Says}
use Rattle.script_read.specs.Results.{followed, mapped}
use Rattle.script_read.specs.Said.{Reading, Said}
use Rattle.script_read.specs.Said as said
use Rattle.script_read.specs.Script.{IsRequests, IsScript, SayItems}
use Rattle.script_read.specs.declared.block.Block.{Block}
use Rattle.script_read.specs.declared.block.Block.TheVariants.{AddAll, AddEx, RemoveAll, Update, UpdateFiltered}
use Rattle.script_read.specs.declared.fault.LineCause.{LineCause}
use Rattle.script_read.specs.declared.fault.LineCause.TheVariants as cause
use Rattle.script_read.specs.declared.word.CallVerb.{CallVerb}
use Rattle.script_read.specs.declared.word.CallVerb.TheVariants as call_verb
use Rattle.script_read.specs.declared.word.Verb.{Verb}
use Rattle.script_read.specs.declared.word.Verb.TheVariants as verb
use Rattle.text_parts.specs.Full.{given_number}
use Rattle.text_parts.specs.Numbered.{Line}
use Rattle.script_read.specs.Named.{has_name, is_named, is_request_told}

-- ---- steps over results

-- a value has it, if there is one
abbrev pub Gives : {X E : Type 0} → (X → Type 0) → Result X E → Type 0
Gives Has (Ok x) = Has x
Gives Has (Err e) = ⊤

pub step_gives : {X Y E : Type 0} (Has : X → Type 0) (Had : Y → Type 0) (r : Result X E) (next : X → Result Y E) → Gives Has r → ((x : X) → Has x → Gives Had (next x)) → Gives Had (followed r next)
step_gives Has Had (Ok x) next has on = on x has
step_gives Has Had (Err e) next has on = tt

pub map_gives : {X Y E : Type 0} (Has : X → Type 0) (Had : Y → Type 0) (r : Result X E) (f : X → Y) → Gives Has r → ((x : X) → Has x → Had (f x)) → Gives Had (mapped f r)
map_gives Has Had (Ok x) f has on = on x has
map_gives Has Had (Err e) f has on = tt

pub anything : {X E : Type 0} (r : Result X E) → Gives (λ (x : X). ⊤) r
anything (Ok x) = tt
anything (Err e) = tt

pub line_gives : {X : Type 0} (Has : X → Type 0) (number : ℕ) (r : Result X LineCause) → Gives Has r → Gives Has (at_line number r)
line_gives Has number (Ok x) has = has
line_gives Has number (Err why) has = tt

pub choice_gives : {X E : Type 0} (Has : X → Type 0) (test : Bool) (r s : Result X E) → Gives Has r → Gives Has s → Gives Has (if test then r else s)
choice_gives Has true r s p q = p
choice_gives Has false r s p q = q

pub alone_gives : {X : Type 0} (Has : X → Type 0) (fields : FieldReader) (it : X) (arguments : List ℕ) → Has it → Gives Has (alone fields it arguments)
alone_gives Has fields it [] has = has
alone_gives {X} Has fields it (byte ∷ bytes) has = step_gives {Y = X} (λ (found : Fields). ⊤) Has (fields (byte ∷ bytes)) (λ _. Err cause.Fields) (anything (fields (byte ∷ bytes))) (λ found _. tt)

-- ---- tables

abbrev Named : TableId → Type 0
Named table = has_name table ≡ true

abbrev pub ItemNamed : Said → Type 0
ItemNamed item = is_named item ≡ true

table_gives : (name : List ℕ) → Gives Named (table_of name)
table_gives name = by (table_named name) refl
  where
    by : (found : Option TableId) → table_named name ≡ found → Gives Named (ok_or found cause.Table)
    by None e = tt
    by (Some table) e = ap is_some (name_from_named table name e)

relation_gives : (name : List ℕ) → Gives (λ (number : ℕ). Named (G number)) (relation_of name)
relation_gives name = by (table_named name) refl
  where
    by : (found : Option TableId) → table_named name ≡ found → Gives (λ (number : ℕ). Named (G number)) (ok_or (option_and_then relation_number found) cause.Table)
    by None e = tt
    by (Some P) e = tt
    by (Some (G number)) e = ap is_some (name_from_named (G number) name e)

rule_gives : (fields : Fields) → Gives (λ (found : TableId × Fields). Named (found.0)) (rule_of fields)
rule_gives [] = tt
rule_gives (name ∷ []) = tt
rule_gives (name ∷ field ∷ fields) = map_gives Named (λ (found : TableId × Fields). Named (found.0)) (table_of name) (λ (table : TableId). (table, field ∷ fields)) (table_gives name) (λ table has. has)

filter_gives : (fields : Fields) → Gives (λ (found : TableId × ℕ × Fields). Named (found.0)) (filter_of fields)
filter_gives [] = tt
filter_gives (name ∷ []) = tt
filter_gives (name ∷ place ∷ []) = tt
filter_gives (name ∷ place ∷ value ∷ values) =
    step_gives Named (λ (found : TableId × ℕ × Fields). Named (found.0)) (table_of name) (λ (table : TableId). mapped (λ (at : ℕ). (table, at, value ∷ values)) (numeral place)) (table_gives name)
    (λ table has. map_gives (λ (at : ℕ). ⊤) (λ (found : TableId × ℕ × Fields). Named (found.0)) (numeral place) (λ (at : ℕ). (table, at, value ∷ values)) (anything (numeral place)) (λ at _. has))

rows_give : (fields : Fields) → Gives (λ (found : TableId × ℕ × Fields). Named (found.0)) (rows_of fields)
rows_give [] = tt
rows_give (name ∷ []) = map_gives Named (λ (found : TableId × ℕ × Fields). Named (found.0)) (table_of name) (λ (table : TableId). (table, 0, [])) (table_gives name) (λ table has. has)
rows_give (name ∷ place ∷ values) = filter_gives (name ∷ place ∷ values)

names_give : (fields : Fields) → Gives (λ (found : ℕ × List ℕ × Option (List ℕ)). Named (G (found.0))) (names_of fields)
names_give [] = tt
names_give (relation ∷ []) = tt
names_give (relation ∷ name ∷ []) = map_gives (λ (number : ℕ). Named (G number)) (λ (found : ℕ × List ℕ × Option (List ℕ)). Named (G (found.0))) (relation_of relation) (λ (number : ℕ). (number, name, None)) (relation_gives relation) (λ number has. has)
names_give (relation ∷ name ∷ domain ∷ []) = map_gives (λ (number : ℕ). Named (G number)) (λ (found : ℕ × List ℕ × Option (List ℕ)). Named (G (found.0))) (relation_of relation) (λ (number : ℕ). (number, name, Some domain)) (relation_gives relation) (λ number has. has)
names_give (relation ∷ name ∷ domain ∷ more ∷ fields) = tt

-- ---- items of one line

abbrev CallNamed : Call → Type 0
CallNamed called = Named (call_table called)

call_gives : (word : CallVerb) (fields : Fields) → Gives CallNamed (verb_call word fields)
call_gives call_verb.Add fields = map_gives (λ (found : TableId × Fields). Named (found.0)) CallNamed (rule_of fields) (λ (found : TableId × Fields). call.Add (found.0) (found.1)) (rule_gives fields) (λ found has. has)
call_gives call_verb.Remove fields = map_gives (λ (found : TableId × Fields). Named (found.0)) CallNamed (rule_of fields) (λ (found : TableId × Fields). call.Remove (found.0) (found.1)) (rule_gives fields) (λ found has. has)
call_gives call_verb.RemoveFiltered fields = map_gives (λ (found : TableId × ℕ × Fields). Named (found.0)) CallNamed (filter_of fields) (λ (found : TableId × ℕ × Fields). call.RemoveFiltered (found.0) (found.1) (found.2)) (filter_gives fields) (λ found has. has)
call_gives call_verb.DeleteUser fields = map_gives (λ (name : List ℕ). ⊤) CallNamed (name_of fields) (λ (name : List ℕ). call.DeleteUser name) (anything (name_of fields)) (λ name _. refl)
call_gives call_verb.DeleteRole fields = map_gives (λ (name : List ℕ). ⊤) CallNamed (name_of fields) (λ (name : List ℕ). call.DeleteRole name) (anything (name_of fields)) (λ name _. refl)

verb_gives : (word : Verb) (fields : Fields) → Gives ItemNamed (verb_item word fields)
verb_gives (verb.Call word) fields = map_gives CallNamed ItemNamed (verb_call word fields) (λ (called : Call). said.edits called) (call_gives word fields) (λ called has. has)
verb_gives verb.Has fields = map_gives (λ (found : TableId × Fields). Named (found.0)) ItemNamed (rule_of fields) (λ (found : TableId × Fields). said.has (found.0) (found.1)) (rule_gives fields) (λ found has. has)
verb_gives verb.Rows fields = map_gives (λ (found : TableId × ℕ × Fields). Named (found.0)) ItemNamed (rows_of fields) (λ (found : TableId × ℕ × Fields). said.rows (found.0) (found.1) (found.2)) (rows_give fields) (λ found has. has)
verb_gives verb.Roles fields = map_gives (λ (found : ℕ × List ℕ × Option (List ℕ)). Named (G (found.0))) ItemNamed (names_of fields) (λ (found : ℕ × List ℕ × Option (List ℕ)). said.roles (found.0) (found.1) (found.2)) (names_give fields) (λ found has. has)
verb_gives verb.Users fields = map_gives (λ (found : ℕ × List ℕ × Option (List ℕ)). Named (G (found.0))) ItemNamed (names_of fields) (λ (found : ℕ × List ℕ × Option (List ℕ)). said.users (found.0) (found.1) (found.2)) (names_give fields) (λ found has. has)
verb_gives verb.Keep fields = map_gives (λ (count : ℕ). ⊤) ItemNamed (count_of fields) (λ (count : ℕ). said.keeps count) (anything (count_of fields)) (λ count _. refl)
verb_gives verb.History fields = map_gives (λ (number : ℕ). ⊤) ItemNamed (count_of fields) (λ (number : ℕ). said.recalls number) (anything (count_of fields)) (λ number _. refl)

worded_gives : (fields : FieldReader) (found : Option Verb) (arguments : List ℕ) → Gives ItemNamed (worded fields found arguments)
worded_gives fields None arguments = tt
worded_gives fields (Some word) arguments = step_gives (λ (found : Fields). ⊤) ItemNamed (fields arguments) (verb_item word) (anything (fields arguments)) (λ found _. verb_gives word found)

-- why a line is no request is told
abbrev ReadingTold : Reading → Type 0
ReadingTold (Ok values) = ⊤
ReadingTold (Err e) = is_request_told e ≡ true

asked_named : (reading : Reading) → ReadingTold reading → ItemNamed (said.asks reading)
asked_named (Ok values) told = refl
asked_named (Err e) told = told

module _ (fields : FieldReader) (request : RequestReader) (told : (line : List ℕ) → ReadingTold (request line)) where
  line_named : (line : List ℕ) → Gives ItemNamed (line_item fields request line)
  unfolding word_item
  line_named line =
      choice_gives ItemNamed (bytes_eq (word_of line) (codes "ask")) (Ok (said.asks (request (arguments_of line)))) _ (asked_named (request (arguments_of line)) (told (arguments_of line)))
      (choice_gives ItemNamed (bytes_eq (word_of line) (codes "publish")) (alone fields said.publishes (arguments_of line)) _ (alone_gives ItemNamed fields said.publishes (arguments_of line) refl)
      (choice_gives ItemNamed (bytes_eq (word_of line) (codes "sync")) (alone fields said.syncs (arguments_of line)) _ (alone_gives ItemNamed fields said.syncs (arguments_of line) refl)
      (worded_gives fields (find (λ (named : Verb). bytes_eq (word_of line) (word_of_verb named)) verbs) (arguments_of line))))

-- ---- blocks

abbrev TableNamed : Option TableId → Type 0
TableNamed None = ⊤
TableNamed (Some table) = Named table

abbrev BlockNamed : Block → Type 0
BlockNamed kind = TableNamed (table_of_block kind)

plain_gives : (fields : FieldReader) (word arguments : List ℕ) → Gives BlockNamed (of_plain fields (plain_block word) arguments)
plain_gives fields word arguments =
    by (bytes_eq word (codes "add-all")) (bytes_eq word (codes "add-ex")) (bytes_eq word (codes "remove-all")) (bytes_eq word (codes "update"))
  where
    by : (all some none pairs : Bool) → Gives BlockNamed (of_plain fields (if all then Some AddAll else if some then Some AddEx else if none then Some RemoveAll else if pairs then Some Update else None) arguments)
    by true some none pairs = alone_gives BlockNamed fields AddAll arguments tt
    by false true none pairs = alone_gives BlockNamed fields AddEx arguments tt
    by false false true pairs = alone_gives BlockNamed fields RemoveAll arguments tt
    by false false false true = alone_gives BlockNamed fields Update arguments tt
    by false false false false = tt

block_gives : (fields : FieldReader) (line : List ℕ) → Gives BlockNamed (block_of fields line)
unfolding block_of_word
block_gives fields line =
    let word = word_of (arguments_of line) in
    let arguments = arguments_of (arguments_of line) in
    choice_gives BlockNamed (bytes_eq word (codes "update-filtered")) (filtered fields arguments) (of_plain fields (plain_block word) arguments)
    (step_gives (λ (found : Fields). ⊤) BlockNamed (fields arguments) (λ (found : Fields). mapped (λ (filter : TableId × ℕ × Fields). UpdateFiltered (filter.0) (filter.1) (filter.2)) (filter_of found)) (anything (fields arguments))
    (λ found _. map_gives (λ (filter : TableId × ℕ × Fields). Named (filter.0)) BlockNamed (filter_of found) (λ (filter : TableId × ℕ × Fields). UpdateFiltered (filter.0) (filter.1) (filter.2)) (filter_gives found) (λ filter has. has)))
    (plain_gives fields word arguments)

inner_gives : (fields : FieldReader) (table : Option TableId) (line : List ℕ) → Gives (λ (found : TableId × Fields). Named (found.0)) (inner_rule fields table line)
inner_gives fields table line =
    step_gives (λ (found : Fields). ⊤) (λ (found : TableId × Fields). Named (found.0)) (fields line) (λ (found : Fields). rule_in table found) (anything (fields line))
    (λ found _. step_gives (λ (rule : TableId × Fields). Named (rule.0)) (λ (rule : TableId × Fields). Named (rule.0)) (rule_of found) (of_block table) (rule_gives found) (λ rule has. by table rule has))
  where
    by : (one : Option TableId) (rule : TableId × Fields) → Named (rule.0) → Gives (λ (found : TableId × Fields). Named (found.0)) (of_block one rule)
    by None rule has = has
    by (Some other) rule has = choice_gives (λ (found : TableId × Fields). Named (found.0)) (same_table other (rule.0)) (Ok rule) (Err cause.Mixed) has tt

rules_give : (fields : FieldReader) (table : Option TableId) (lines : List Line) → TableNamed table → Gives (λ (found : Option TableId × List Fields). TableNamed (found.0)) (rules_of fields table lines)
unfolding rules_of
rules_give fields table [] named = named
rules_give fields table (line ∷ lines) named =
    step_gives (λ (found : TableId × Fields). Named (found.0)) (λ (found : Option TableId × List Fields). TableNamed (found.0)) (at_line (given_number line.number) (inner_rule fields table line.text))
    (λ (found : TableId × Fields). mapped (rule_before (found.1)) (rules_of fields (Some (found.0)) lines))
    (line_gives (λ (found : TableId × Fields). Named (found.0)) (given_number line.number) (inner_rule fields table line.text) (inner_gives fields table line.text))
    (λ found has. map_gives (λ (others : Option TableId × List Fields). TableNamed (others.0)) (λ (others : Option TableId × List Fields). TableNamed (others.0)) (rules_of fields (Some (found.0)) lines) (rule_before (found.1))
    (rules_give fields (Some (found.0)) lines has) (λ others all. all))

-- a block without rules is one on p
or_p : (table : Option TableId) → TableNamed table → Named (unwrap_or table P)
or_p None named = refl
or_p (Some table) named = named

made_gives : (kind : Block) (found : Option TableId × List Fields) → BlockNamed kind → TableNamed (found.0) → Gives CallNamed (ok_or (call_of kind found) cause.Unpaired)
made_gives AddAll found kind named = or_p (found.0) named
made_gives AddEx found kind named = or_p (found.0) named
made_gives RemoveAll found kind named = or_p (found.0) named
made_gives Update found kind named = by (pairs_of (found.1))
  where
    by : (pairs : Option (List (Fields × Fields))) → Gives CallNamed (ok_or (option_map (call.Update (unwrap_or (found.0) P)) pairs) cause.Unpaired)
    by None = tt
    by (Some pairs) = or_p (found.0) named
made_gives (UpdateFiltered table at values) found kind named = kind

ended_gives : (fields : FieldReader) (begin : ℕ) (inside : List Line) (end : Option ℕ) (kind : Block) → BlockNamed kind → Gives CallNamed (ended_block fields begin inside end kind)
ended_gives fields begin inside None kind named = tt
ended_gives fields begin inside (Some end) kind named =
    step_gives (λ (found : Option TableId × List Fields). TableNamed (found.0)) CallNamed (rules_of fields (table_of_block kind) inside)
    (λ (found : Option TableId × List Fields). at_line (given_number end) (ok_or (call_of kind found) cause.Unpaired)) (rules_give fields (table_of_block kind) inside named)
    (λ found has. line_gives CallNamed (given_number end) (ok_or (call_of kind found) cause.Unpaired) (made_gives kind found named has))

block_named : (fields : FieldReader) (begin : Line) (inside : List Line) (end : Option ℕ) → Gives CallNamed (block_call fields begin inside end)
unfolding block_call
block_named fields begin inside end =
    step_gives BlockNamed CallNamed (at_line (given_number begin.number) (block_of fields begin.text)) (ended_block fields begin.number inside end)
    (line_gives BlockNamed (given_number begin.number) (block_of fields begin.text) (block_gives fields begin.text)) (λ kind has. ended_gives fields begin.number inside end kind has)

-- ---- requests

member_told : (field : ℕ) (j : json.Data) → ReadingTold (mapped (λ (d : Datum). d ∷ []) (member_value field j))
member_told field j = by (nat_le (json.depth j) most_levels) (datum_of j)
  where
    by : (shallow : Bool) (found : Option Datum) → ReadingTold (mapped (λ (d : Datum). d ∷ []) (if shallow then ok_or found (fault.NotWhole field) else Err (fault.TooDeep field)))
    by true None = refl
    by true (Some d) = tt
    by false found = refl

onto_told : (first : Result Datum RequestFault) (later : Reading) → ReadingTold (mapped (λ (d : Datum). d ∷ []) first) → ReadingTold later → ReadingTold (onto_answers first later)
onto_told (Err e) later p q = p
onto_told (Ok d) (Err e) p q = q
onto_told (Ok d) (Ok ds) p q = tt

values_told : (field : ℕ) (js : json.Items) → ReadingTold (values_from field js)
values_told field json.no_items = tt
values_told field (json.item j js) = onto_told (member_value field j) (values_from (field + 1) js) (member_told field j) (values_told (field + 1) js)

json_told : (found : Option json.Data) → ReadingTold (values_of found)
json_told None = refl
json_told (Some json.null) = refl
json_told (Some (json.boolean b)) = refl
json_told (Some (json.number n)) = refl
json_told (Some (json.string s)) = refl
json_told (Some (json.object ms)) = refl
json_told (Some (json.array js)) = by (nat_lt most_values (items_len js))
  where
    by : (many : Bool) → ReadingTold (if many then Err fault.TooMany else values_from 1 js)
    by true = refl
    by false = values_told 1 js

fault_told : (e : RequestFault) → e ≢ fault.NoMemory → is_request_told e ≡ true
fault_told fault.NoMemory other = absurd (other refl)
fault_told _ other = refl

reading_told : (json : Bool) (line : List ℕ) (reading : Reading) → Says json line reading → ReadingTold reading
reading_told true line reading is = subst ReadingTold is (json_told (read line))
reading_told false line (Ok values) is = tt
reading_told false line (Err e) is = fault_told e is.0

-- ---- texts

module _ (json : Bool) (reader : Reader json) where
  told : (line : List ℕ) → ReadingTold (reader.request line)
  told line = reading_told json line (reader.request line) (reader.says line)

  pub part_named : (part : Part) → Gives ItemNamed (part_item reader.fields reader.request part)
  part_named (single line) = line_gives ItemNamed (given_number line.number) (line_item reader.fields reader.request line.text) (line_named reader.fields reader.request told line.text)
  part_named (block begin inside end) =
      map_gives CallNamed ItemNamed (block_call reader.fields begin inside end) (λ (it : Call). said.edits it) (block_named reader.fields begin inside end) (λ it has. has)

  items_named : (texts : List Part) (items : List Said) → SayItems reader texts items → AllByRecursion ItemNamed items
  items_named [] [] say = tt
  items_named [] (item ∷ items) say = absurd say
  items_named (part ∷ texts) [] say = absurd say
  items_named (part ∷ texts) (item ∷ items) say = (subst (Gives ItemNamed) say.0 (part_named part), items_named texts items say.1)

  asked_all : (lines : List (List ℕ)) → AllByRecursion ItemNamed (map (λ (line : List ℕ). said.asks (reader.request line)) lines)
  asked_all [] = tt
  asked_all (line ∷ lines) = (asked_named (reader.request line) (told line), asked_all lines)

-- the items of a script
pub script_named : (json : Bool) (bytes : List ℕ) (items : List Said) → IsScript json bytes items → AllByRecursion ItemNamed items
script_named json bytes items is = items_named json is.reader (parts (script_lines bytes)) items is.says

-- and those of requests alone
pub requests_named : (json : Bool) (bytes : List ℕ) (items : List Said) → IsRequests json bytes items → AllByRecursion ItemNamed items
requests_named json bytes items is = subst (AllByRecursion ItemNamed) (sym is.asked) (asked_all json is.reader (requests_of bytes))
