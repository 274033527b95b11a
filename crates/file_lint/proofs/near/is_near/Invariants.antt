use Rattle.std.proofs.Common.{◌≡◌, length}
use Rattle.file_lint.specs.Near.{is_near}
use Rattle.file_lint.proofs.near.is_near.Given as goal

abbrev pub invariant-loop-byte : goal.invariant-loop-byte
invariant-loop-byte l = is_near l.rest l.left ≡ is_near l.text l.other

abbrev pub decreases-loop-byte : goal.decreases-loop-byte
decreases-loop-byte l = length l.rest
