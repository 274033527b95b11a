use Rattle.std.proofs.Common.{refl}
use Rattle.dist_rows.specs.Helps.Rows.{with_last}
use Rattle.dist_rows.proofs.FrontLemmas.{front_mapped}
use Rattle.dist_rows.proofs.columns.push_cells.Goals as goal

pub loop-row-preserved : goal.loop-row-preserved
loop-row-preserved c = front_mapped (with_last 255) c.loop-row.row-index c.args.rows.now c.loop-row.rows _ c.push.new.self c.row-item.result c.loop-row-test.true c.loop-row.invariant c.push.ensures refl
