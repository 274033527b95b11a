use Rattle.std.proofs.Common.{◌≡◌, ◌-◌, ◌≤◌, false, length, take}
use Rattle.std.specs.List.{list_any}
use Rattle.perm_base.specs.FieldSteps.{ends_plain}
use Rattle.perm_base.proofs.line_ends.plain_front.Given as goal

abbrev pub invariant-loop-at : goal.invariant-loop-at
invariant-loop-at l = record { within : l.at ≤ length l.bytes; none : list_any ends_plain (take l.at l.bytes) ≡ false }

abbrev pub decreases-loop-at : goal.decreases-loop-at
decreases-loop-at l = length l.bytes - l.at
