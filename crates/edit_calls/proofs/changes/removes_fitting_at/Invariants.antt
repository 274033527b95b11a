use Rattle.std.proofs.Common.{◌≡◌, take}
use Rattle.policy_table.specs.Tables.{rows}
use Rattle.edit_calls.specs.Edits.{fitting, removes}
use Rattle.edit_calls.specs.Found.{rules_at}
use Rattle.edit_calls.proofs.changes.removes_fitting_at.Given as goal

abbrev pub invariant-loop-place : goal.invariant-loop-place
invariant-loop-place l = l.changes.items ≡ removes l.table (fitting l.at l.values (take l.place-index (rules_at (rows l.tables.policy l.table) l.places)))
