use Rattle.std.proofs.Common.{arith, subst, sym}
use Rattle.std.specs.List.{AllZip}
use Rattle.std.proofs.lemmas.List.{with_items_is}
use Rattle.std.proofs.lemmas.List.Elements.{length_all_zip}
use Rattle.live_rounds.specs.Helps.Learned.{HasLearned}
use Rattle.live_rounds.proofs.seat_fronts.learn_seats.Goals as goal

-- the slice is all that the `Vec` holds
pub returns : goal.returns
returns g c =
    let learned = subst (λ l. AllZip (HasLearned c.args.front.now) l c.learn_all.new.seats) c.as_mut_slice.ensures.value c.learn_all.ensures.learned in
    let long = length_all_zip (HasLearned c.args.front.now) c.args.seats.now.items c.learn_all.new.seats learned in
    record { learned = subst (AllZip (HasLearned c.args.front.now) c.args.seats.now.items) (sym (with_items_is c.args.seats.now c.learn_all.new.seats (omega (arith, long, c.args.seats.now.ok.0)))) learned }
