use Rattle.std.proofs.Common.{length}
use Rattle.ip_match.proofs.GroupLemmas.{Walked}
use Rattle.ip_match.proofs.colons.read_groups.Given as goal

abbrev pub invariant-loop-part : goal.invariant-loop-part
invariant-loop-part l = Walked l.text l.rest l.groups.count l.groups.number

abbrev pub decreases-loop-part : goal.decreases-loop-part
decreases-loop-part l = length l.rest
