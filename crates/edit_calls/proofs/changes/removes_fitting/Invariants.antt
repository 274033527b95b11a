use Rattle.std.proofs.Common.{◌≡◌, ℕ, drop, take}
use Rattle.edit_calls.specs.Edits.{fitting, removes}
use Rattle.edit_calls.proofs.changes.removes_fitting.Given as goal

abbrev pub invariant-loop-row : goal.invariant-loop-row
invariant-loop-row l = (n : ℕ) × (l.row-iterator ≡ drop n l.fn.rows) × (l.changes.items ≡ removes l.table (fitting l.at l.values (take n l.fn.rows)))
