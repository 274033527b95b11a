use Rattle.std.specs.Arc.{arc_value}
use Rattle.enforce_core.specs.Helps.Held.{place_of}
use Rattle.enforce_core.proofs.enforcer.Enforcer.over.Goals as goal

pub returns : goal.returns
returns c = λ j. record { model = arc_value c.args.program; place = place_of c.args.place; refusals = c.in_ok-finder.ensures j }
