use Rattle.std.proofs.Common.{refl}
use Rattle.live_rounds.proofs.LearningLemmas.{learned_all, learned_more, learned_none}
use Rattle.live_rounds.proofs.seat_fronts.learn_all.Goals as goal

pub loop-seat-init : goal.loop-seat-init
loop-seat-init g c = learned_none c.args.front.now c.args.seats.now

pub loop-seat-preserved : goal.loop-seat-preserved
loop-seat-preserved g c =
    learned_more c.args.front.now c.args.seats.now c.loop-seat.seat-index c.loop-seat.seats _ c.learn.new.seat c.seat-item.result c.loop-seat-test.true c.loop-seat.invariant c.learn.ensures refl

pub returns : goal.returns
returns g c = record { learned = learned_all c.args.front.now c.args.seats.now c.loop-seat.seat-index c.loop-seat.seats c.loop-seat-test.false c.loop-seat.invariant }
