use Rattle.std.proofs.Common.{refl}
use Rattle.dist_rows.specs.Helps.Rows.{without_cell}
use Rattle.dist_rows.proofs.FrontLemmas.{front_mapped}
use Rattle.dist_rows.proofs.columns.drop_cells.Goals as goal

pub loop-row-preserved : goal.loop-row-preserved
loop-row-preserved c = front_mapped (without_cell c.args.at) c.loop-row.row-index c.args.rows.now c.loop-row.rows _ c.swap_remove.new.self c.row-item.result c.loop-row-test.true c.loop-row.invariant c.swap_remove.ensures refl
