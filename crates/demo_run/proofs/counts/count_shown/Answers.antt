use Rattle.std.proofs.Common.{refl}
use Rattle.demo_run.proofs.CountLemmas.{counted_at, on_ok_of_two, shown_tallied}
use Rattle.demo_run.proofs.counts.count_shown.Goals as goal

pub loop-one-init : goal.loop-one-init
loop-one-init c = refl

pub loop-one-preserved : goal.loop-one-preserved
loop-one-preserved c = counted_at c.args.shown.now c.loop-one.one-index _ c.args.tally.now.counts c.loop-one.counts c.in_ok-counts.counts c.loop-one-test.true c.loop-one.invariant c.in_ok-counts.ensures

pub returns : goal.returns
returns c =
    on_ok_of_two c.set_tally.result
    (λ items counts told same. shown_tallied told c.args.shown.now c.args.tally.now c.set_tally.new.tally c.loop-one.counts c.loop-one.one-index c.loop-one-test.false c.loop-one.invariant items counts same)
    c.set_tally.ensures.items c.set_tally.ensures.counts
