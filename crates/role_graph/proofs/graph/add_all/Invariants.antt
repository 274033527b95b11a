use Rattle.std.proofs.Common.{◌≡◌, ◌+◌, take}
use Rattle.policy_table.specs.Tables.{Fields}
use Rattle.role_graph.specs.Groups.{times}
use Rattle.role_graph.specs.Helps.Edits.{standing}
use Rattle.role_graph.proofs.graph.add_all.Given as goal

abbrev pub invariant-loop-row : goal.invariant-loop-row
invariant-loop-row l = (one : Fields) → standing l.links l.edits one ≡ standing l.links l.initial.edits one + times one (take l.row-index l.rows)
