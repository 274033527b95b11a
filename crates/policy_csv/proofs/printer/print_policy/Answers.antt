use Rattle.std.proofs.Common.{◌≡◌, List, ℕ, sym, subst, ◌∙◌, arith}
use Rattle.std.specs.String.{string_bytes}
use Rattle.std.specs.Prelude.{IsUtf8}
use Rattle.std.proofs.lemmas.Str.{IsUtf8-string_bytes}
use Rattle.policy_csv.specs.Policy.{IsPolicy}
use Rattle.policy_csv.specs.Printed.{printed}
use Rattle.policy_csv.proofs.PrintLemmas.{fields_of_all, printed_is_policy}
use Rattle.policy_csv.proofs.PushLemmas.{all_fields, pushed_table, tables_more, whole_text}
use Rattle.policy_csv.proofs.printer.print_policy.Goals as goal

pub loop-table-preserved : goal.loop-table-preserved
loop-table-preserved c = record {
  lines = pushed_table c.args.tables.now.policy c.loop-table.table-index _ _ (omega arith) c.loop-table.invariant.lines c.in_ok-push_table.ensures.lines;
  fields = tables_more c.args.tables.now.policy c.loop-table.table-index (omega arith) c.loop-table.invariant.fields c.in_ok-push_table.ensures.fields;
}

pub returns-clause-printed : goal.returns-clause-printed
returns-clause-printed c = c.from_string.ensures ∙ whole_text c.args.tables.now.policy c.loop-table.table-index (string_bytes c.loop-table.text) (omega arith) c.loop-table.invariant.lines

pub returns-clause-read : goal.returns-clause-read
returns-clause-read c = λ shapes valid sound.
    let text : c.from_string.result ≡ printed c.args.tables.now.policy
    = c.from_string.ensures ∙ whole_text c.args.tables.now.policy c.loop-table.table-index (string_bytes c.loop-table.text) (omega arith) c.loop-table.invariant.lines in
    let utf8 : IsUtf8 (printed c.args.tables.now.policy)
    = subst IsUtf8 (whole_text c.args.tables.now.policy c.loop-table.table-index (string_bytes c.loop-table.text) (omega arith) c.loop-table.invariant.lines) (IsUtf8-string_bytes c.loop-table.text) in
    subst (λ (t : List ℕ). IsPolicy shapes t c.args.tables.now.policy) (sym text)
    (printed_is_policy shapes c.args.tables.now.policy valid c.kept.ensures sound (fields_of_all c.args.tables.now.policy (all_fields c.args.tables.now.policy c.loop-table.table-index (omega arith) c.loop-table.invariant.fields)) utf8)
