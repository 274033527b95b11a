use Rattle.dist_rows.specs.Squares.{sum_of}
use Rattle.dist_rows.proofs.LaneLemmas.{joined_by, sum_one}
use Rattle.dist_rows.proofs.lanes.sums.Goals as goal

pub returns : goal.returns
returns c = joined_by _ _ sum_of _ sum_one c.args.lanes c.args.others c.fits-lanes.1 c.fits-others.1
