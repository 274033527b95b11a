use Rattle.std.proofs.Common.{◌≡◌, drop}
use Rattle.policy_table.specs.Tables.{rows}
use Rattle.edit_calls.specs.Edits.{one_stays}
use Rattle.edit_calls.proofs.named.one_stays.Given as goal

-- what is left of the rules decides
abbrev pub invariant-loop-place : goal.invariant-loop-place
invariant-loop-place l = one_stays l.at l.values l.rules (rows l.tables.policy l.table) ≡ one_stays l.at l.values (drop l.place l.rules) (rows l.tables.policy l.table)
