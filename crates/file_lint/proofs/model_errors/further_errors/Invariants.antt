use Rattle.std.proofs.Common.{◌≡◌, ℕ, List, ◌++◌, false}
use Rattle.std.specs.Prelude.{string_bytes}
use Rattle.file_lint.specs.ModelErrors.{HasErrors, most_errors}
use Rattle.file_lint.specs.declared.finding.Finding.{Finding}
use Rattle.file_lint.proofs.model_errors.further_errors.Given as goal

abbrev pub invariant-loop-left : goal.invariant-loop-left
invariant-loop-left l = (others : List Finding) → HasErrors l.left l.guessed (string_bytes l.text) l.fault others → HasErrors most_errors false (string_bytes l.fn.bytes) l.fn.first (l.errors.items ++ others)

abbrev pub decreases-loop-left : goal.decreases-loop-left
decreases-loop-left l = l.left
