-- The rules of a block's lines, read from the first, and the block's call.
use Rattle.std.proofs.Common.{◌≡◌, ℕ, ◌+◌, true, false, List, [], ◌∷◌, ◌++◌, append_assoc, append-nil, Option, Some, None, Result, Ok, Err, refl, sym, ap, subst, ◌∙◌}
use Rattle.std.specs.Prelude.{ok_or}
use Rattle.edit_calls.specs.declared.call.Call.{Call}
use Rattle.perm_base.specs.declared.shapes.TableId.{TableId}
use Rattle.policy_table.specs.Tables.{Fields}
use Rattle.script_read.proofs.EndLemmas.{before_here, before_none, before_on}
use Rattle.script_read.proofs.GivesLemmas.{mapped_fails, step_fails}
use Rattle.script_read.specs.Blocks.{at_line, block_call, block_of, call_of, ended_block, inner_rule, rule_before, rules_of, table_of_block}
use Rattle.script_read.specs.Helps.Ends.{before_end}
use Rattle.script_read.specs.Helps.Given.{Fails, fields_read}
use Rattle.script_read.specs.Lines.{ends_block}
use Rattle.text_parts.specs.Full.{full_lines, given_number}
use Rattle.script_read.specs.Results.{followed, mapped}
use Rattle.script_read.specs.declared.block.Block.{Block}
use Rattle.script_read.specs.declared.fault.LineCause.TheVariants as cause
use Rattle.script_read.specs.declared.fault.ScriptFault.{ScriptFault}
use Rattle.script_read.specs.declared.fault.ScriptFault.TheVariants.{OpenBatch}
use Rattle.text_parts.specs.Numbered.{Line, line}

-- a table, and the rules of lines
abbrev pub Rules : Type 0
Rules = Option TableId × List Fields

-- the rules that were read before others
abbrev pub behind_rules : List Fields → Rules → Rules
behind_rules taken others = (others.0, taken ++ others.1)

-- what the lines up to the block's end come to
abbrev pub left : Option TableId → List Line → Result Rules ScriptFault
left table lines = rules_of fields_read table (before_end lines)

more_rules : (taken : List Fields) (rule : Fields) (read : Result Rules ScriptFault) → mapped (behind_rules taken) (mapped (rule_before rule) read) ≡ mapped (behind_rules (taken ++ rule ∷ [])) read
more_rules taken rule (Ok others) = ap (λ (r : List Fields). Ok (others.0, r)) (sym (append_assoc taken (rule ∷ []) (others.1)))
more_rules taken rule (Err fault) = refl

no_rules : (table : Option TableId) (taken : List Fields) → mapped (behind_rules taken) (rules_of fields_read table []) ≡ Ok (table, taken)
unfolding rules_of
no_rules table taken = ap (λ (r : List Fields). Ok (table, r)) (append-nil taken)

some_rules : (table : Option TableId) (first : Line) (lines : List Line)
    → rules_of fields_read table (first ∷ lines) ≡ followed (at_line (given_number first.number) (inner_rule fields_read table first.text)) (λ (found : TableId × Fields). mapped (rule_before (found.1)) (rules_of fields_read (Some (found.0)) lines))
unfolding rules_of
some_rules table first lines = refl

-- at the first, nothing was read
pub rules_begin : (table : Option TableId) (lines : List Line) → mapped (behind_rules []) (left table lines) ≡ left table lines
rules_begin table lines = by (left table lines)
  where
    by : (read : Result Rules ScriptFault) → mapped (behind_rules []) read ≡ read
    by (Ok found) = refl
    by (Err fault) = refl

module _ (number at : ℕ) (text rest after : List ℕ) (first : full_lines number text ≡ line at rest ∷ full_lines (at + 1) after) (table : Option TableId) (taken : List Fields) (whole : Result Rules ScriptFault)
    (reads : mapped (behind_rules taken) (left table (full_lines number text)) ≡ whole) where
  -- the line ends the block
  pub rules_here : ends_block rest ≡ true → whole ≡ Ok (table, taken)
  rules_here ends = sym reads ∙ ap (λ (l : List Line). mapped (behind_rules taken) (rules_of fields_read table l)) (before_here number at text rest after first ends) ∙ no_rules table taken

  on : ends_block rest ≡ false → whole ≡ mapped (behind_rules taken) (followed (at_line (given_number at) (inner_rule fields_read table rest)) (λ (found : TableId × Fields). mapped (rule_before (found.1)) (left (Some (found.0)) (full_lines (at + 1) after))))
  on goes = sym reads ∙ ap (λ (l : List Line). mapped (behind_rules taken) (rules_of fields_read table l)) (before_on number at text rest after first goes) ∙ ap (mapped (behind_rules taken)) (some_rules table (line at rest) (before_end (full_lines (at + 1) after)))

  -- it is a rule
  pub rules_on : (own : TableId) (rule : Fields) → ends_block rest ≡ false → at_line (given_number at) (inner_rule fields_read table rest) ≡ Ok (own, rule) → mapped (behind_rules (taken ++ rule ∷ [])) (left (Some own) (full_lines (at + 1) after)) ≡ whole
  rules_on own rule goes says =
      sym (on goes ∙ ap (λ (r : Result (TableId × Fields) ScriptFault). mapped (behind_rules taken) (followed r (λ (found : TableId × Fields). mapped (rule_before (found.1)) (left (Some (found.0)) (full_lines (at + 1) after))))) says
      ∙ more_rules taken rule (left (Some own) (full_lines (at + 1) after)))

  -- it is at fault
  pub rules_stop : (fault : ScriptFault) → ends_block rest ≡ false → Fails fault (at_line (given_number at) (inner_rule fields_read table rest)) → Fails fault whole
  rules_stop fault goes bad =
      subst (λ (r : Result Rules ScriptFault). Fails fault r) (sym (on goes))
      (mapped_fails (behind_rules taken) fault (followed (at_line (given_number at) (inner_rule fields_read table rest)) (λ (found : TableId × Fields). mapped (rule_before (found.1)) (left (Some (found.0)) (full_lines (at + 1) after))))
      (step_fails fault (at_line (given_number at) (inner_rule fields_read table rest)) (λ (found : TableId × Fields). mapped (rule_before (found.1)) (left (Some (found.0)) (full_lines (at + 1) after))) bad))

-- no line is left
pub rules_end : (lines : List Line) (table : Option TableId) (taken : List Fields) (whole : Result Rules ScriptFault) → lines ≡ [] → mapped (behind_rules taken) (left table lines) ≡ whole → whole ≡ Ok (table, taken)
rules_end lines table taken whole none reads = sym reads ∙ ap (λ (l : List Line). mapped (behind_rules taken) (rules_of fields_read table l)) (before_none lines none) ∙ no_rules table taken

-- ---- the block

module _ (number : ℕ) (begin : List ℕ) (inside : List Line) (end : Option ℕ) where
  pub kind_fails : (fault : ScriptFault) → Fails fault (at_line (given_number number) (block_of fields_read begin)) → Fails fault (block_call fields_read (line number begin) inside end)
  unfolding block_call
  kind_fails fault bad = step_fails fault (at_line (given_number number) (block_of fields_read begin)) (ended_block fields_read number inside end) bad

  module _ (kind : Block) (is_kind : at_line (given_number number) (block_of fields_read begin) ≡ Ok kind) where
    begun : block_call fields_read (line number begin) inside end ≡ ended_block fields_read number inside end kind
    unfolding block_call
    begun = ap (λ (r : Result Block ScriptFault). followed r (ended_block fields_read number inside end)) is_kind

    pub open_block : end ≡ None → block_call fields_read (line number begin) inside end ≡ Err (OpenBatch (given_number number))
    open_block open_end = begun ∙ ap (λ (e : Option ℕ). ended_block fields_read number inside e kind) open_end

    module _ (last : ℕ) (closed : end ≡ Some last) where
      closing : block_call fields_read (line number begin) inside end ≡ ended_block fields_read number inside (Some last) kind
      closing = begun ∙ ap (λ (e : Option ℕ). ended_block fields_read number inside e kind) closed

      pub inside_fails : (fault : ScriptFault) → Fails fault (rules_of fields_read (table_of_block kind) inside) → Fails fault (block_call fields_read (line number begin) inside end)
      inside_fails fault bad =
          subst (λ (r : Result Call ScriptFault). Fails fault r) (sym closing)
          (step_fails fault (rules_of fields_read (table_of_block kind) inside) (λ (found : Rules). at_line (given_number last) (ok_or (call_of kind found) cause.Unpaired)) bad)

      pub block_done : (found : Rules) → rules_of fields_read (table_of_block kind) inside ≡ Ok found → block_call fields_read (line number begin) inside end ≡ at_line (given_number last) (ok_or (call_of kind found) cause.Unpaired)
      block_done found read = closing ∙ ap (λ (r : Result Rules ScriptFault). followed r (λ (f : Rules). at_line (given_number last) (ok_or (call_of kind f) cause.Unpaired))) read
