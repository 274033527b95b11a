use Rattle.std.proofs.Common.{◌≡◌, ℕ, ◌+◌, Option, Err, sym, ap, subst, ◌∙◌, rules}
use Rattle.std.specs.Prelude.{ok_or}
use Rattle.edit_calls.specs.declared.call.Call.{Call}
use Rattle.perm_base.specs.declared.shapes.TableId.{TableId}
use Rattle.script_read.specs.Blocks.{at_line, block_of, call_of, rules_of}
use Rattle.script_read.specs.Helps.Ends.{before_end}
use Rattle.script_read.specs.Helps.Given.{Fails, Gives, fields_read}
use Rattle.text_parts.specs.Full.{full_lines}
use Rattle.script_read.specs.declared.fault.LineCause.TheVariants.{Unpaired}
use Rattle.script_read.specs.declared.fault.ScriptFault.{ScriptFault}
use Rattle.script_read.specs.declared.fault.ScriptFault.TheVariants.{OpenBatch}
use Rattle.std.specs.Prelude.{Result}
use Rattle.script_read.proofs.BlockLemmas.{block_done, inside_fails, kind_fails, open_block}
use Rattle.script_read.proofs.block.read_block.Goals as goal

pub returns-in_err-kind : goal.returns-in_err-kind
returns-in_err-kind c =
    let stop : c.from_residual.result ≡ Err c.in_err-kind.field-0.0 = search rules in
    let bad = subst (λ (n : ℕ). Fails c.in_err-kind.field-0.0 (at_line n (block_of fields_read c.args.begin.now))) c.given_number-first.ensures c.in_err-kind.ensures in
    rw stop (kind_fails c.args.number c.args.begin.now (before_end (full_lines (c.args.number + 1) c.args.text.now)) c.args.end c.in_err-kind.field-0.0 bad)

pub returns-in_default : goal.returns-in_default
returns-in_default c =
    let kind = ap (λ (n : ℕ). at_line n (block_of fields_read c.args.begin.now)) (sym c.given_number-first.ensures) ∙ c.in_ok-kind.ensures in
    open_block c.args.number c.args.begin.now (before_end (full_lines (c.args.number + 1) c.args.text.now)) c.args.end c.in_ok-kind.kind kind c.in_default.is
    ∙ ap (λ (n : ℕ). Err (OpenBatch n)) (sym c.given_number-first.ensures)

pub returns-in_err-table : goal.returns-in_err-table
returns-in_err-table c =
    let stop : c.from_residual-in_err-table.result ≡ Err c.in_err-table.field-0.0 = search rules in
    let kind = ap (λ (n : ℕ). at_line n (block_of fields_read c.args.begin.now)) (sym c.given_number-first.ensures) ∙ c.in_ok-kind.ensures in
    let bad = subst (λ (t : Option TableId). Fails c.in_err-table.field-0.0 (rules_of fields_read t (before_end (full_lines (c.args.number + 1) c.args.text.now)))) c.table.ensures c.in_err-table.ensures in
    rw stop (inside_fails c.args.number c.args.begin.now (before_end (full_lines (c.args.number + 1) c.args.text.now)) c.args.end c.in_ok-kind.kind kind c.in-Some.last c.in-Some.is c.in_err-table.field-0.0 bad)

pub returns : goal.returns
returns c =
    let kind = ap (λ (n : ℕ). at_line n (block_of fields_read c.args.begin.now)) (sym c.given_number-first.ensures) ∙ c.in_ok-kind.ensures in
    let read = ap (λ (t : Option TableId). rules_of fields_read t (before_end (full_lines (c.args.number + 1) c.args.text.now))) (sym c.table.ensures) ∙ c.in_ok-table.ensures in
    let done = block_done c.args.number c.args.begin.now (before_end (full_lines (c.args.number + 1) c.args.text.now)) c.args.end c.in_ok-kind.kind kind c.in-Some.last c.in-Some.is (c.in_ok-table.table, c.in_ok-table.rules.items) read
    ∙ ap (λ (n : ℕ). at_line n (ok_or (call_of c.in_ok-kind.kind (c.in_ok-table.table, c.in_ok-table.rules.items)) Unpaired)) (sym c.given_number.ensures) in
    subst (λ (r : Result Call ScriptFault). Gives (λ (call : Call). call) c.call_of.result r) (sym done) c.call_of.ensures
