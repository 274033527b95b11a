use Rattle.std.proofs.Common.{min}
use Rattle.dist_rows.proofs.LaneLemmas.{chosen, least_one}
use Rattle.dist_rows.proofs.lanes.least.Goals as goal

pub returns : goal.returns
returns c = chosen _ min (λ x y _ _. least_one x y) c.args.lanes c.args.others c.fits-lanes.1 c.fits-others.1
