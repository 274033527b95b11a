use Rattle.live_rounds.proofs.LearningLemmas.{HaveLearnedUpTo}
use Rattle.live_rounds.proofs.seat_fronts.learn_all.Given as goal

abbrev pub invariant-loop-seat : goal.invariant-loop-seat
invariant-loop-seat g l = HaveLearnedUpTo l.front l.initial.seats l.seat-index l.seats
