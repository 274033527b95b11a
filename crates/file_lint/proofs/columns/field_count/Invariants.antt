use Rattle.std.proofs.Common.{◌≡◌, ◌+◌, ◌≤◌, length}
use Rattle.file_lint.specs.Columns.{field_count}
use Rattle.file_lint.specs.declared.columns.Within.TheVariants.{Front}
use Rattle.file_lint.proofs.columns.field_count.Given as goal

abbrev pub invariant-loop-byte : goal.invariant-loop-byte
invariant-loop-byte l = record { counted : l.count + field_count l.within l.rest ≡ 1 + field_count Front l.line; few : l.count + length l.rest ≤ 1 + length l.line }

abbrev pub decreases-loop-byte : goal.decreases-loop-byte
decreases-loop-byte l = length l.rest
