-- Blocks of lines: a `begin` line, rule lines, and `end`. A text's parts are its blocks and other lines.
use Rattle.std.specs.Prelude.{ℕ, ◌==◌, Bool, true, false, List, [], ◌∷◌, ◌++◌, codes, Option, Some, None, ok_or, option_map, Result, Ok, Err, if◌then◌else◌}
use Rattle.std.specs.Option.{unwrap_or}
use Rattle.std.specs.Str.{bytes_eq}
use Rattle.edit_calls.specs.declared.call.Call.{Call}
use Rattle.edit_calls.specs.declared.call.Call.TheVariants as call
use Rattle.perm_base.specs.declared.shapes.TableId.{TableId}
use Rattle.perm_base.specs.declared.shapes.TableId.TheVariants.{P, G}
use Rattle.policy_table.specs.Tables.{Fields}
use Rattle.script_read.specs.Items.{FieldReader, RequestReader, alone, filter_of, line_item, rule_of}
use Rattle.script_read.specs.Lines.{arguments_of, begins_block, ends_block, word_of}
use Rattle.text_parts.specs.Full.{given_number}
use Rattle.script_read.specs.Results.{followed, mapped}
use Rattle.script_read.specs.Said.{Said, edits}
use Rattle.script_read.specs.declared.block.Block.{Block}
use Rattle.script_read.specs.declared.block.Block.TheVariants.{AddAll, AddEx, RemoveAll, Update, UpdateFiltered}
use Rattle.script_read.specs.declared.fault.LineCause.{LineCause}
use Rattle.script_read.specs.declared.fault.LineCause.TheVariants as cause
use Rattle.script_read.specs.declared.fault.ScriptFault.{ScriptFault}
use Rattle.script_read.specs.declared.fault.ScriptFault.TheVariants as fault
use Rattle.text_parts.specs.Numbered.{Line}

-- ---- the parts of a text

-- a line that begins no block; or a `begin` line, the lines inside, and the number of the line `end`,
-- unless the text ends before
pub data Part : Type 0 where
  single : Line → Part
  block : Line → List Line → Option ℕ → Part

-- the parts of these lines; behind a `begin` line and lines of its block
abbrev mutual
  pub parts : List Line → List Part
  parts [] = []
  parts (line ∷ lines) = if begins_block line.text then parts_inside line [] lines else single line ∷ parts lines

  pub parts_inside : Line → List Line → List Line → List Part
  parts_inside begin inside [] = block begin inside None ∷ []
  parts_inside begin inside (line ∷ lines) = if ends_block line.text then block begin inside (Some line.number) ∷ parts lines else parts_inside begin (inside ++ line ∷ []) lines

-- ---- the `begin` line

-- a block whose rules go in place of those that a filter fits
abbrev pub filtered : FieldReader → List ℕ → Result Block LineCause
filtered fields arguments = followed (fields arguments) (λ (found : Fields). mapped (λ (filter : TableId × ℕ × Fields). UpdateFiltered (filter.0) (filter.1) (filter.2)) (filter_of found))

-- the blocks whose words take no arguments
abbrev pub plain_block : List ℕ → Option Block
plain_block word =
    if bytes_eq word (codes "add-all") then Some AddAll
    else if bytes_eq word (codes "add-ex") then Some AddEx
    else if bytes_eq word (codes "remove-all") then Some RemoveAll
    else if bytes_eq word (codes "update") then Some Update
    else None

abbrev pub of_plain : FieldReader → Option Block → List ℕ → Result Block LineCause
of_plain fields None arguments = Err cause.Word
of_plain fields (Some kind) arguments = alone fields kind arguments

-- what kind of block a word and its own arguments begin
unfoldable pub block_of_word : FieldReader → List ℕ → List ℕ → Result Block LineCause
block_of_word fields word arguments = if bytes_eq word (codes "update-filtered") then filtered fields arguments else of_plain fields (plain_block word) arguments

-- what kind of block a line begins: the block's word is the first of the arguments of `begin`
abbrev pub block_of : FieldReader → List ℕ → Result Block LineCause
block_of fields line = block_of_word fields (word_of (arguments_of line)) (arguments_of (arguments_of line))

-- ---- the lines inside

-- the table that the rules of a block must have before its first rule
abbrev pub table_of_block : Block → Option TableId
table_of_block (UpdateFiltered table at values) = Some table
table_of_block _ = None

abbrev pub same_table : TableId → TableId → Bool
same_table P P = true
same_table (G one) (G other) = one == other
same_table _ _ = false

-- the rule, unless the block has another table
abbrev pub of_block : Option TableId → TableId × Fields → Result (TableId × Fields) LineCause
of_block None found = Ok found
of_block (Some table) found = if same_table table (found.0) then Ok found else Err cause.Mixed

-- what the fields of a rule line say, in a block of this table
abbrev pub rule_in : Option TableId → Fields → Result (TableId × Fields) LineCause
rule_in table fields = followed (rule_of fields) (of_block table)

-- a rule line, in a block of this table
abbrev pub inner_rule : FieldReader → Option TableId → List ℕ → Result (TableId × Fields) LineCause
inner_rule fields table line = followed (fields line) (λ (found : Fields). rule_in table found)

-- what is said of the line of a number
abbrev pub at_line : {X : Type 0} → ℕ → Result X LineCause → Result X ScriptFault
at_line number (Ok x) = Ok x
at_line number (Err cause) = Err (fault.Line number cause)

-- a rule in front of others, which are of the table that is given with them
abbrev pub rule_before : Fields → Option TableId × List Fields → Option TableId × List Fields
rule_before rule others = (others.0, rule ∷ others.1)

-- the rules of lines in a block of this table, and the table behind them
unfoldable pub rules_of : FieldReader → Option TableId → List Line → Result (Option TableId × List Fields) ScriptFault
rules_of fields table [] = Ok (table, [])
rules_of fields table (line ∷ lines) =
    followed (at_line (given_number line.number) (inner_rule fields table line.text)) (λ (found : TableId × Fields). mapped (rule_before (found.1)) (rules_of fields (Some (found.0)) lines))

-- ---- the block

-- old and new rules by turns; None where the last has no new one
unfoldable pub pairs_of : List Fields → Option (List (Fields × Fields))
pairs_of [] = Some []
pairs_of (old ∷ []) = None
pairs_of (old ∷ new ∷ rules) = option_map (λ (pairs : List (Fields × Fields)). (old, new) ∷ pairs) (pairs_of rules)

-- the call of a block with these rules; without rules it is one on p
abbrev pub call_of : Block → Option TableId × List Fields → Option Call
call_of AddAll found = Some (call.AddAll (unwrap_or (found.0) P) (found.1))
call_of AddEx found = Some (call.AddEx (unwrap_or (found.0) P) (found.1))
call_of RemoveAll found = Some (call.RemoveAll (unwrap_or (found.0) P) (found.1))
call_of Update found = option_map (call.Update (unwrap_or (found.0) P)) (pairs_of (found.1))
call_of (UpdateFiltered table at values) found = Some (call.UpdateFiltered table at values (found.1))

-- the call of a block whose end has a number; an odd number of rules in an `update` is told there
abbrev pub ended_block : FieldReader → ℕ → List Line → Option ℕ → Block → Result Call ScriptFault
ended_block fields begin inside None kind = Err (fault.OpenBatch (given_number begin))
ended_block fields begin inside (Some end) kind = followed (rules_of fields (table_of_block kind) inside) (λ (found : Option TableId × List Fields). at_line (given_number end) (ok_or (call_of kind found) cause.Unpaired))

-- the call of a block, or its first fault: of the `begin` line, that the text ends in it, of a line
-- inside, of its end
unfoldable pub block_call : FieldReader → Line → List Line → Option ℕ → Result Call ScriptFault
block_call fields begin inside end = followed (at_line (given_number begin.number) (block_of fields begin.text)) (ended_block fields begin.number inside end)

-- the item of a part, or its first fault
abbrev pub part_item : FieldReader → RequestReader → Part → Result Said ScriptFault
part_item fields request (single line) = at_line (given_number line.number) (line_item fields request line.text)
part_item fields request (block begin inside end) = mapped (λ (it : Call). edits it) (block_call fields begin inside end)
