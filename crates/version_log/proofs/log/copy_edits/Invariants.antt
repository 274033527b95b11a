use Rattle.std.proofs.Common.{◌≡◌, take}
use Rattle.version_log.proofs.log.copy_edits.Given as goal

abbrev pub invariant-loop-at : goal.invariant-loop-at
invariant-loop-at l = l.copy.items ≡ take l.at l.edits.items
