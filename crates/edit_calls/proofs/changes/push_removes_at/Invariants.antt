use Rattle.std.proofs.Common.{◌≡◌, ◌++◌, take}
use Rattle.policy_table.specs.Tables.{rows}
use Rattle.edit_calls.specs.Edits.{removes, rows_with}
use Rattle.edit_calls.specs.Found.{rules_at}
use Rattle.edit_calls.proofs.changes.push_removes_at.Given as goal

abbrev pub invariant-loop-place : goal.invariant-loop-place
invariant-loop-place l = l.changes.items ≡ l.fn.changes.items ++ removes l.table (rows_with l.column l.name (take l.place-index (rules_at (rows l.tables.policy l.table) l.places)))
