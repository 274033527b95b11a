use Rattle.std.proofs.Common.{◌≡◌, ℕ, ◌++◌, All, drop, take}
use Rattle.std.specs.String.{string_bytes}
use Rattle.perm_base.specs.LineEnds.{AreFields}
use Rattle.perm_base.specs.TableNames.{name_of}
use Rattle.policy_csv.proofs.PushLemmas.{lines_named}
use Rattle.policy_table.specs.Tables.{rows}
use Rattle.text_parts.specs.Lines.{with_ends}
use Rattle.policy_csv.proofs.printer.push_table.Given as goal

abbrev pub invariant-loop-rule : goal.invariant-loop-rule
invariant-loop-rule l = (n : ℕ) × (l.rule-iterator ≡ drop n (rows l.tables.policy l.fn.table))
    × (string_bytes l.text ≡ string_bytes l.initial.text ++ with_ends (lines_named (name_of l.fn.table) (take n (rows l.tables.policy l.fn.table))))
    × All AreFields (take n (rows l.tables.policy l.fn.table))
