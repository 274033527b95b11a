use Rattle.std.proofs.Common.{List, length}
use Rattle.file_lint.specs.Helps.Rows.{AreFound, FindsMore, row_line}
use Rattle.file_lint.specs.declared.finding.Finding.{Finding}
use Rattle.file_lint.proofs.rows.push_looked.Given as goal

abbrev pub invariant-loop-look : goal.invariant-loop-look
invariant-loop-look l = (now : List Finding) → FindsMore (AreFound l.model (row_line l.row) l.rule l.rest) l.found.items now → FindsMore (AreFound l.model (row_line l.row) l.rule l.looked) l.fn.found.items now

abbrev pub decreases-loop-look : goal.decreases-loop-look
decreases-loop-look l = length l.rest
