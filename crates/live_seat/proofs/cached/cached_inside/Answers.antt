use Rattle.live_seat.proofs.CacheLemmas.{cached_at, gone_left, good_entered, serves_left, serves_shut}
use Rattle.live_seat.proofs.cached.cached_inside.Goals as goal

pub returns-in-Err-clause-serves : goal.returns-in-Err-clause-serves
returns-in-Err-clause-serves g c = serves_shut c.args.program.now _ _ c.args.seat c.in-Err.shut.seat c.args.cache.now c.in-Err.ensures.shut c.requires.serves

pub decide_cached-decided-requires-clause-good : goal.decide_cached-decided-requires-clause-good
decide_cached-decided-requires-clause-good g c = λ lifetimes outlive.
    good_entered c.args.program.now _ _ c.args.seat c.in-Ok.entered c.state-state.result.now c.in-Ok.ensures.entered c.state-state.ensures.shapes c.state-state.ensures.stands c.args.cache.now c.requires.serves

pub returns-in-Ok-decided-clause-decided : goal.returns-in-Ok-decided-clause-decided
returns-in-Ok-decided-clause-decided g c =
    cached_at c.args.program.now _ _ _ _ _ c.args.seat c.in-Ok.entered c.leave-seat.result c.state-state.result.now c.in-Ok.ensures.entered c.leave-seat.ensures.same c.state-state.ensures.shapes c.state-state.ensures.stands
    c.version-version.result c.in-Ok-decided.answer c.args.cache.now c.decide_cached-decided.new.cache c.version-version.ensures.version c.state-state.ensures.version
    c.in-Ok-decided.ensures.judged c.in-Ok-decided.ensures.refused c.in-Ok-decided.ensures.answered c.in-Ok-decided.ensures.untouched

pub returns-in-Ok-decided-clause-serves : goal.returns-in-Ok-decided-clause-serves
returns-in-Ok-decided-clause-serves g c =
    serves_left c.args.program.now _ _ c.args.seat c.in-Ok.entered c.state-state.result.now c.in-Ok.ensures.entered c.state-state.ensures.shapes c.state-state.ensures.stands c.leave-seat.result c.leave-seat.ensures.same
    c.decide_cached-decided.new.cache c.decide_cached-decided.ensures.version c.decide_cached-decided.ensures.good

pub returns-in-Err-decided-clause-serves : goal.returns-in-Err-decided-clause-serves
returns-in-Err-decided-clause-serves g c =
    serves_left c.args.program.now _ _ c.args.seat c.in-Ok.entered c.state-state.result.now c.in-Ok.ensures.entered c.state-state.ensures.shapes c.state-state.ensures.stands c.leave-seat.result c.leave-seat.ensures.same
    c.decide_cached-decided.new.cache c.decide_cached-decided.ensures.version c.decide_cached-decided.ensures.good

pub returns-in-Err-decided-clause-left : goal.returns-in-Err-decided-clause-left
returns-in-Err-decided-clause-left g c =
    gone_left c.args.program.now _ _ c.args.seat c.in-Ok.entered c.state-state.result.now c.in-Ok.ensures.entered c.state-state.ensures.shapes c.state-state.ensures.stands c.leave-seat.result c.leave-seat.ensures.same
    c.decide_cached-decided.new.cache c.args.cache.now c.state-state.ensures.version c.in-Err-decided.ensures.stopped
