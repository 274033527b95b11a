use Rattle.live_seat.proofs.CallerLemmas.{suits_plain}
use Rattle.live_tests.proofs.desks.shapes.Goals as goal

pub returns-clause-suits : goal.returns-clause-suits
returns-clause-suits c = suits_plain c.args.model.now _ c.in-Ok.ensures.found
