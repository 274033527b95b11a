use Rattle.std.proofs.Common.{◌-◌, ◌/◌, ◌<◌, ◌≤◌, sym, ◌∙◌, arith}
use Rattle.key_match.specs.Helps.Tokens.{pieces_at}
use Rattle.key_match.proofs.Halved.{halved_start, halved_up, halved_down, halved_last, halved_fits}
use Rattle.key_match.proofs.part.last_to_end.Goals as goal

pub loop-low-init : goal.loop-low-init
loop-low-init c =
    halved_start (pieces_at c.args.dialect c.args.pattern.now c.args.next) c.args.key.now c.args.ends.least c.args.ends.most c.requires.ordered

pub loop-low-preserved-then-fits_later : goal.loop-low-preserved-then-fits_later
loop-low-preserved-then-fits_later c =
    let low = c.loop-low.low in
    let high = c.loop-low.high in
    let middle = high - (high - low) / 2 in
    let above : low ≤ middle = omega (arith, c.loop-low-test.true) in
    let below : middle ≤ high = omega arith in
    halved_up (pieces_at c.args.dialect c.args.pattern.now c.args.next) c.args.key.now c.args.ends.least c.args.ends.most low high middle c.loop-low.invariant above below
    (sym c.fits_later.ensures ∙ c.if-fits_later.true)

pub loop-low-preserved : goal.loop-low-preserved
loop-low-preserved c =
    let low = c.loop-low.low in
    let high = c.loop-low.high in
    let middle = high - (high - low) / 2 in
    let above : low < middle = omega (arith, c.loop-low-test.true) in
    let below : middle ≤ high = omega arith in
    halved_down (pieces_at c.args.dialect c.args.pattern.now c.args.next) c.args.key.now c.args.ends.least c.args.ends.most low high middle c.loop-low.invariant c.requires.whole above below
    (sym c.fits_later.ensures ∙ c.if-fits_later.false)

pub returns-clause-last : goal.returns-clause-last
returns-clause-last c =
    halved_last (pieces_at c.args.dialect c.args.pattern.now c.args.next) c.args.key.now c.args.ends.least c.args.ends.most c.loop-low.low c.loop-low.high c.loop-low.invariant
    (omega (arith, c.loop-low-test.false))

pub returns-clause-fitting : goal.returns-clause-fitting
returns-clause-fitting c =
    halved_fits (pieces_at c.args.dialect c.args.pattern.now c.args.next) c.args.key.now c.args.ends.least c.args.ends.most c.loop-low.low c.loop-low.high c.loop-low.invariant
    (omega (arith, c.loop-low-test.false)) c.requires.whole
