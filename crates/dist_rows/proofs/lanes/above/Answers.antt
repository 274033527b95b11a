use Rattle.std.proofs.Common.{◌-◌}
use Rattle.dist_rows.proofs.LaneLemmas.{above_one, joined}
use Rattle.dist_rows.proofs.lanes.above.Goals as goal

pub returns : goal.returns
returns c = joined _ _ (λ d e. d - e) above_one c.args.lanes c.args.others c.fits-lanes.1 c.fits-others.1
