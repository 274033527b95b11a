use Rattle.std.proofs.Common.{◌≡◌, length}
use Rattle.file_lint.specs.ModelWarnings.{has_class}
use Rattle.file_lint.proofs.model_warnings.has_class.Given as goal

abbrev pub invariant-loop-byte : goal.invariant-loop-byte
invariant-loop-byte l = has_class l.rest ≡ has_class l.text

abbrev pub decreases-loop-byte : goal.decreases-loop-byte
decreases-loop-byte l = length l.rest
