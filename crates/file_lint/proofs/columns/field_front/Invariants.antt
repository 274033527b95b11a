use Rattle.std.proofs.Common.{◌≡◌, ◌+◌, length}
use Rattle.file_lint.specs.Columns.{field_front}
use Rattle.file_lint.specs.declared.columns.Within.TheVariants.{Front}
use Rattle.file_lint.proofs.columns.field_front.Given as goal

abbrev pub invariant-loop-left : goal.invariant-loop-left
invariant-loop-left l = record { front : l.passed + field_front l.left l.within l.rest ≡ field_front l.before Front l.line; all : l.passed + length l.rest ≡ length l.line }

abbrev pub decreases-loop-left : goal.decreases-loop-left
decreases-loop-left l = length l.rest
