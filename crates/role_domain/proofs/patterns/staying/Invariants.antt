use Rattle.std.proofs.Common.{◌≡◌, filter, take, true}
use Rattle.policy_table.specs.Tables.{Fields}
use Rattle.role_domain.specs.Helps.Turns.{said_of}
use Rattle.role_domain.proofs.patterns.staying.Given as goal

abbrev pub invariant-loop-row : goal.invariant-loop-row
invariant-loop-row l = l.found.items ≡ filter (λ (row : Fields). said_of l.said.entries row true) (take l.row-index l.rows)
