use Rattle.role_domain.specs.Helps.OwnRows.{HaveRows}
use Rattle.role_domain.proofs.own_rows.rows_by_domain.Given as goal

abbrev pub invariant-loop-row : goal.invariant-loop-row
invariant-loop-row l = HaveRows l.fn.rows l.row-iterator l.own
