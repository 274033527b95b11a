use Rattle.live_seat.proofs.DecidedLemmas.{explained_at}
use Rattle.live_seat.proofs.explained.explained_inside.Goals as goal

pub returns-in-Ok-explained-clause-explained : goal.returns-in-Ok-explained-clause-explained
returns-in-Ok-explained-clause-explained g c =
    explained_at c.args.program.now _ _ _ _ _ c.args.seat c.in-Ok.entered c.leave-seat.result c.state.result.now c.in-Ok.ensures.entered c.leave-seat.ensures.same c.state.ensures.shapes c.state.ensures.stands
    c.version-version.result c.in-Ok-explained.verdict c.in-Ok-explained.rule c.version-version.ensures.version c.in-Ok-explained.ensures.judged c.in-Ok-explained.ensures.refused c.in-Ok-explained.ensures.rule
