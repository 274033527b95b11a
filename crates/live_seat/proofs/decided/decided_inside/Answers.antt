use Rattle.live_seat.proofs.DecidedLemmas.{decided_at}
use Rattle.live_seat.proofs.decided.decided_inside.Goals as goal

pub returns-in-Ok-decided-clause-decided : goal.returns-in-Ok-decided-clause-decided
returns-in-Ok-decided-clause-decided g c =
    decided_at c.args.program.now _ _ _ _ _ c.args.seat c.in-Ok.entered c.leave-seat.result c.state.result.now c.in-Ok.ensures.entered c.leave-seat.ensures.same c.state.ensures.shapes c.state.ensures.stands
    c.version-version.result c.in-Ok-decided.verdict c.version-version.ensures.version c.in-Ok-decided.ensures.judged c.in-Ok-decided.ensures.refused
