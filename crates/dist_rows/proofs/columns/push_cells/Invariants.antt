use Rattle.std.proofs.Common.{◌≡◌, map}
use Rattle.dist_rows.specs.Helps.Rows.{fronted, with_last}
use Rattle.dist_rows.proofs.columns.push_cells.Given as goal

abbrev pub invariant-loop-row : goal.invariant-loop-row
invariant-loop-row l = l.rows ≡ fronted l.row-index (map (with_last 255) l.initial.rows) l.initial.rows
