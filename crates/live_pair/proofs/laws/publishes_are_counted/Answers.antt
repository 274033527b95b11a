use Rattle.live_pair.proofs.LifeLemmas.{counted_publish}
use Rattle.live_pair.proofs.laws.publishes_are_counted.Goals as goal

pub returns : goal.returns
returns c = record { counted = counted_publish }
