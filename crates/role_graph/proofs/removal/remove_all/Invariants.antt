use Rattle.std.proofs.Common.{◌≡◌, ◌+◌, ◌-◌, ◌≤◌, length, take}
use Rattle.policy_table.specs.Tables.{Fields}
use Rattle.role_graph.specs.Groups.{times}
use Rattle.role_graph.specs.Helps.Edits.{standing}
use Rattle.role_graph.proofs.removal.remove_all.Given as goal

abbrev pub decreases-loop-at : goal.decreases-loop-at
decreases-loop-at l = length l.rows - l.at

abbrev pub invariant-loop-at : goal.invariant-loop-at
invariant-loop-at l = (l.at ≤ length l.rows) × ((one : Fields) → standing l.links l.edits one + times one (take l.at l.rows) ≡ standing l.links l.initial.edits one)
