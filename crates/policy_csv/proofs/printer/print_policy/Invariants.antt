use Rattle.std.proofs.Common.{◌≡◌, take}
use Rattle.std.specs.Prelude.{flat_map}
use Rattle.std.specs.List.{AllByRecursion}
use Rattle.std.specs.String.{string_bytes}
use Rattle.policy_csv.specs.Printed.{HaveFields, all_tables, table_lines}
use Rattle.text_parts.specs.Lines.{with_ends}
use Rattle.policy_csv.proofs.printer.print_policy.Given as goal

abbrev pub invariant-loop-table : goal.invariant-loop-table
invariant-loop-table l = record {
  lines : string_bytes l.text ≡ with_ends (flat_map (table_lines l.tables.policy) (take l.table-index all_tables));
  fields : AllByRecursion (HaveFields l.tables.policy) (take l.table-index all_tables);
}
