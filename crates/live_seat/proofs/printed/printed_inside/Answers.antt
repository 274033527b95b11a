use Rattle.live_seat.proofs.DecidedLemmas.{printed_at}
use Rattle.live_seat.proofs.printed.printed_inside.Goals as goal

pub returns-in-Ok-printed-clause-printed : goal.returns-in-Ok-printed-clause-printed
returns-in-Ok-printed-clause-printed g c =
    let told = c.in-Ok-printed.ensures.judged in
    printed_at c.args.program.now _ _ _ _ _ c.args.seat c.in-Ok.entered c.leave-seat.result c.state-state.result.now c.in-Ok.ensures.entered c.leave-seat.ensures.same c.state-state.ensures.shapes c.state-state.ensures.stands
    c.version-version.result told.0 c.args.replies.now c.judged_printed-printed.new.replies c.version-version.ensures.version told.1 told.2 told.3
