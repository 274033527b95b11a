use Rattle.std.specs.Arc.{arc_value}
use Rattle.enforce_core.proofs.PlaceLemmas.{same_as}
use Rattle.enforce_core.proofs.place.share.Goals as goal

pub returns : goal.returns
returns c = same_as (arc_value c.args.state.now) (arc_value c.in_ok-other.other) c.in_ok-other.ensures
