use Rattle.std.proofs.Common.{◌≡◌, subst}
use mathlib.Core.List.{IsPrefix}
use Rattle.live_pair.specs.Seats.{Way}
use Rattle.live_pair.proofs.entrance.Entrance.enter.Goals as goal

-- src/entrance.rt:117:5
pub returns-clause-begun : goal.returns-clause-begun
returns-clause-begun g c = subst (λ (w : Way). IsPrefix w.front c.in-Some.new) c.self.view_is c.in-Some.ensures.begun
