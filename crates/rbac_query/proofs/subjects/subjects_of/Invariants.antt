use Rattle.std.proofs.Common.{◌≡◌, ℕ, drop, map, take}
use Rattle.rbac_query.specs.Helps.Subjects.{shown}
use Rattle.rbac_query.specs.Report.{AreSubjects}
use Rattle.rbac_query.proofs.subjects.subjects_of.Given as goal

abbrev pub invariant-loop-row : goal.invariant-loop-row
invariant-loop-row l = (n : ℕ) × (l.row-iterator ≡ drop n l.fn.rows) × AreSubjects l.shape (take n l.fn.rows) (map shown l.subjects.keys)
