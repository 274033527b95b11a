use Rattle.std.proofs.Common.{◌≡◌, drop}
use Rattle.policy_table.specs.Tables.{rows}
use Rattle.edit_calls.specs.Edits.{one_stands}
use Rattle.edit_calls.proofs.named.one_stands.Given as goal

-- what is left of the rules decides
abbrev pub invariant-loop-at : goal.invariant-loop-at
invariant-loop-at g l = one_stands (g.L.RuleList.rules l.rules) (rows l.tables.policy l.table) ≡ one_stands (drop l.at (g.L.RuleList.rules l.rules)) (rows l.tables.policy l.table)
