use Rattle.std.proofs.Common.{◌≡◌, ◌+◌, ◌-◌, ◌≤◌, drop, length}
use Rattle.matcher_read.specs.Helps.Cuts.{name_size}
use Rattle.matcher_read.proofs.token.name_size.Given as goal

abbrev pub invariant-loop-size : goal.invariant-loop-size
invariant-loop-size l = record { within : l.size ≤ length l.bytes; rest : l.size + name_size (drop l.size l.bytes) ≡ name_size l.bytes }

abbrev pub decreases-loop-size : goal.decreases-loop-size
decreases-loop-size l = length l.bytes - l.size
