use Rattle.std.proofs.Common.{length}
use Rattle.version_log.proofs.ReadLemmas.{IsUpTo}
use Rattle.version_log.proofs.edit_read.edit_of.Given as goal

abbrev pub invariant-loop-line : goal.invariant-loop-line
invariant-loop-line l = IsUpTo l.text l.rest l.reading.changes.items l.reading.place l.number

abbrev pub decreases-loop-line : goal.decreases-loop-line
decreases-loop-line l = length l.rest
