use Rattle.std.proofs.Common.{ℕ, ◌+◌, ◌≤◌, List, ◌++◌, false, length}
use Rattle.std.specs.Str.{IsUtf8}
use Rattle.perm_base.specs.declared.shapes.TableId.{TableId}
use Rattle.policy_csv.specs.Lines.{policy_lines}
use Rattle.policy_table.specs.Tables.{rows, without_rules}
use Rattle.text_parts.specs.Full.{full_lines}
use Rattle.file_lint.specs.PolicyErrors.{LintsLines}
use Rattle.file_lint.specs.declared.finding.Finding.{Finding}
use Rattle.file_lint.proofs.policy.lines_found.Given as goal

abbrev pub invariant-loop-at : goal.invariant-loop-at
invariant-loop-at l = record {
  goes : (others : List Finding) → LintsLines l.model l.shapes l.first l.seen.policy (full_lines l.number l.rest) others → LintsLines l.model l.shapes l.first (without_rules false) (policy_lines l.text) (l.findings.items ++ others);
  few : (table : TableId) → length (rows l.seen.policy table) + length l.rest ≤ length l.text;
  within : l.number + length l.rest ≤ 1 + length l.text;
  utf8 : IsUtf8 l.rest;
}

abbrev pub decreases-loop-at : goal.decreases-loop-at
decreases-loop-at l = length l.rest
