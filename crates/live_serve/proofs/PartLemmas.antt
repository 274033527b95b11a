-- A part of a script whose lines have other numbers says the same item.
use Rattle.std.proofs.Common.{◌≡◌, ℕ, Bool, true, false, List, [], ◌∷◌, ◌++◌, map, Some, None, Result, Ok, Err, refl, sym, ap, subst, ◌∙◌, append_assoc, append-nil}
use Rattle.std.specs.Prelude.{Option, if◌then◌else◌, ok_or}
use Rattle.std.specs.List.{AllByRecursion}
use Rattle.edit_calls.specs.declared.call.Call.{Call}
use Rattle.perm_base.specs.declared.shapes.TableId.{TableId}
use Rattle.policy_table.specs.Tables.{Fields}
use Rattle.script_read.specs.Blocks.{Part, at_line, block, block_call, block_of, call_of, ended_block, inner_rule, part_item, parts, parts_inside, rule_before, rules_of, single, table_of_block}
use Rattle.script_read.specs.Items.{FieldReader, RequestReader, line_item}
use Rattle.script_read.specs.Lines.{ends_block}
use Rattle.script_read.specs.Results.{followed, mapped}
use Rattle.script_read.specs.Said.{Said, edits}
use Rattle.script_read.specs.declared.fault.LineCause.{LineCause}
use Rattle.script_read.specs.declared.fault.LineCause.TheVariants as cause
use Rattle.script_read.specs.declared.fault.ScriptFault.{ScriptFault}
use Rattle.text_parts.specs.Full.{given_number}
use Rattle.text_parts.specs.Numbered.{Line, line}

-- what is said of one line is said of another, where it is no fault
at_any : {X : Type 0} (one other : ℕ) (read : Result X LineCause) (x : X) → at_line one read ≡ Ok x → at_line other read ≡ Ok x
at_any one other (Ok y) x e = e
at_any one other (Err why) x e = absurd cc

pub single_same : (fields : FieldReader) (request : RequestReader) (one other : ℕ) (text : List ℕ) (it : Said) → part_item fields request (single (line one text)) ≡ Ok it → part_item fields request (single (line other text)) ≡ Ok it
single_same fields request one other text it e = at_any (given_number one) (given_number other) (line_item fields request text) it e

-- ---- the rules of a block

abbrev Found : Type 0
Found = Option TableId × List Fields

rules_by : (fields : FieldReader) (one other : ℕ) (read : Result (TableId × Fields) LineCause) (rest more : TableId → Result Found ScriptFault) (found : Found) → ((table : TableId) (x : Found) → rest table ≡ Ok x → more table ≡ Ok x)
    → followed (at_line one read) (λ (r : TableId × Fields). mapped (rule_before (r.1)) (rest (r.0))) ≡ Ok found → followed (at_line other read) (λ (r : TableId × Fields). mapped (rule_before (r.1)) (more (r.0))) ≡ Ok found
rules_by fields one other (Err why) rest more found same e = absurd cc
rules_by fields one other (Ok r) rest more found same e = by (rest (r.0)) refl e
  where
    by : (read : Result Found ScriptFault) → rest (r.0) ≡ read → mapped (rule_before (r.1)) read ≡ Ok found → mapped (rule_before (r.1)) (more (r.0)) ≡ Ok found
    by (Ok x) is told = ap (mapped (rule_before (r.1))) (same (r.0) x is) ∙ told
    by (Err why) is told = absurd cc

abbrev pub texts_of : List Line → List (List ℕ)
texts_of lines = map (λ (l : Line). l.text) lines

rules_same : (fields : FieldReader) (table : Option TableId) (lines others : List Line) (found : Found) → texts_of lines ≡ texts_of others → rules_of fields table lines ≡ Ok found → rules_of fields table others ≡ Ok found
unfolding rules_of
rules_same fields table [] [] found same e = e
rules_same fields table [] (o ∷ others) found same e = absurd cc
rules_same fields table (l ∷ lines) [] found same e = absurd cc
rules_same fields table (l ∷ lines) (o ∷ others) found same e =
    let conses : l.text ∷ texts_of lines ≡ o.text ∷ texts_of others = same in
    let text : l.text ≡ o.text = cc in
    let texts : texts_of lines ≡ texts_of others = cc in
    rules_by fields (given_number o.number) (given_number o.number) (inner_rule fields table o.text) (λ (t : TableId). rules_of fields (Some t) lines) (λ (t : TableId). rules_of fields (Some t) others) found (λ t x. rules_same fields (Some t) lines others x texts)
    (subst (λ (t : List ℕ). followed (at_line (given_number o.number) (inner_rule fields table t)) (λ (r : TableId × Fields). mapped (rule_before (r.1)) (rules_of fields (Some (r.0)) lines)) ≡ Ok found) text
    (rules_by fields (given_number l.number) (given_number o.number) (inner_rule fields table l.text) (λ (t : TableId). rules_of fields (Some t) lines) (λ (t : TableId). rules_of fields (Some t) lines) found (λ t x is. is) e))

-- ---- a block

ended_by : (one other : ℕ) (calls : Found → Option Call) (read more : Result Found ScriptFault) (call : Call) → ((x : Found) → read ≡ Ok x → more ≡ Ok x) → followed read (λ (found : Found). at_line one (ok_or (calls found) cause.Unpaired)) ≡ Ok call
    → followed more (λ (found : Found). at_line other (ok_or (calls found) cause.Unpaired)) ≡ Ok call
ended_by one other calls (Err why) more call same e = absurd cc
ended_by one other calls (Ok x) more call same e =
    ap (λ (r : Result Found ScriptFault). followed r (λ (found : Found). at_line other (ok_or (calls found) cause.Unpaired))) (same x refl) ∙ at_any one other (ok_or (calls x) cause.Unpaired) call e

-- what is read with another number in front is the same, where it is no fault
then_by : {Kind : Type 0} (one other : ℕ) (read : Result Kind LineCause) (first second : Kind → Result Call ScriptFault) (call : Call) → ((kind : Kind) → first kind ≡ Ok call → second kind ≡ Ok call)
    → followed (at_line one read) first ≡ Ok call → followed (at_line other read) second ≡ Ok call
then_by one other (Err why) first second call same e = absurd cc
then_by one other (Ok kind) first second call same e = same kind e

call_same : (fields : FieldReader) (begin first : Line) (lines others : List Line) (end last : ℕ) (call : Call) → begin.text ≡ first.text → texts_of lines ≡ texts_of others → block_call fields begin lines (Some end) ≡ Ok call → block_call fields first others (Some last) ≡ Ok call
unfolding block_call
call_same fields begin first lines others end last call text same e =
    ap (λ (t : List ℕ). followed (at_line (given_number first.number) (block_of fields t)) (ended_block fields first.number others (Some last))) (sym text)
    ∙ then_by (given_number begin.number) (given_number first.number) (block_of fields begin.text) (ended_block fields begin.number lines (Some end)) (ended_block fields first.number others (Some last)) call
    (λ kind is. ended_by (given_number end) (given_number last) (call_of kind) (rules_of fields (table_of_block kind) lines) (rules_of fields (table_of_block kind) others) call (λ x found. rules_same fields (table_of_block kind) lines others x same found) is) e

-- what is made of a call that is read
edit_by : (read more : Result Call ScriptFault) (it : Said) → ((call : Call) → read ≡ Ok call → more ≡ Ok call) → mapped (λ (call : Call). edits call) read ≡ Ok it → mapped (λ (call : Call). edits call) more ≡ Ok it
edit_by (Err why) more it same e = absurd cc
edit_by (Ok call) more it same e = ap (mapped (λ (c : Call). edits c)) (same call refl) ∙ e

pub block_same : (fields : FieldReader) (request : RequestReader) (begin first : Line) (lines others : List Line) (end last : ℕ) (it : Said) → begin.text ≡ first.text → texts_of lines ≡ texts_of others
    → part_item fields request (block begin lines (Some end)) ≡ Ok it → part_item fields request (block first others (Some last)) ≡ Ok it
block_same fields request begin first lines others end last it text same e =
    edit_by (block_call fields begin lines (Some end)) (block_call fields first others (Some last)) it (λ call is. call_same fields begin first lines others end last call text same is) e

-- a block that does not end says nothing
open_by : {Kind : Type 0} (n : ℕ) (read : Result Kind LineCause) (next : Kind → Result Call ScriptFault) (why : ScriptFault) (it : Said) → ((kind : Kind) → next kind ≡ Err why) → mapped (λ (call : Call). edits call) (followed (at_line n read) next) ≡ Ok it → ⊥
open_by n (Ok kind) next why it opened e =
    let none : mapped (λ (call : Call). edits call) (Err why) ≡ Ok it = ap (mapped (λ (call : Call). edits call)) (sym (opened kind)) ∙ e in
    absurd cc
open_by n (Err cause) next why it opened e = absurd cc

pub open_says_nothing : (fields : FieldReader) (request : RequestReader) (begin : Line) (lines : List Line) (it : Said) → part_item fields request (block begin lines None) ≡ Ok it → ⊥
unfolding block_call
open_says_nothing fields request begin lines it e = open_by (given_number begin.number) (block_of fields begin.text) (ended_block fields begin.number lines None) _ it (λ kind. refl) e

-- ---- lines up to the end of a block

-- none of these ends a block
abbrev pub AllByEnds : List Line → Type 0
AllByEnds lines = AllByRecursion (λ (l : Line). ends_block l.text ≡ false) lines

pub block_parts : (begin end : Line) (inside lines : List Line) → AllByEnds lines → ends_block end.text ≡ true → parts_inside begin inside (lines ++ end ∷ []) ≡ block begin (inside ++ lines) (Some end.number) ∷ []
block_parts begin end inside [] none ends =
    ap (λ (b : Bool). if b then block begin inside (Some end.number) ∷ [] else parts_inside begin (inside ++ end ∷ []) []) ends ∙ ap (λ (l : List Line). block begin l (Some end.number) ∷ []) (sym (append-nil inside))
block_parts begin end inside (l ∷ lines) none ends =
    ap (λ (b : Bool). if b then block begin inside (Some l.number) ∷ parts (lines ++ end ∷ []) else parts_inside begin (inside ++ l ∷ []) (lines ++ end ∷ [])) none.0
    ∙ block_parts begin end (inside ++ l ∷ []) lines none.1 ends ∙ ap (λ (k : List Line). block begin k (Some end.number) ∷ []) (append_assoc inside (l ∷ []) lines)
