use Rattle.std.proofs.Common.{◌≡◌, ℕ, ◌++◌, drop, take}
use Rattle.edit_calls.specs.Edits.{removes, rows_with}
use Rattle.edit_calls.proofs.changes.push_removes_with.Given as goal

abbrev pub invariant-loop-row : goal.invariant-loop-row
invariant-loop-row l = (n : ℕ) × (l.row-iterator ≡ drop n l.fn.rows) × (l.changes.items ≡ l.fn.changes.items ++ removes l.table (rows_with l.column l.name (take n l.fn.rows)))
