use Rattle.std.proofs.Common.{◌≡◌, map}
use Rattle.dist_rows.specs.Helps.Rows.{fronted, without_cell}
use Rattle.dist_rows.proofs.columns.drop_cells.Given as goal

abbrev pub invariant-loop-row : goal.invariant-loop-row
invariant-loop-row l = l.rows ≡ fronted l.row-index (map (without_cell l.at) l.initial.rows) l.initial.rows
