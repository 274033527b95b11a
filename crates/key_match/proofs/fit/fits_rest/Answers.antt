use Rattle.std.proofs.Common.{drop, sym, ◌∙◌, arith}
use Rattle.key_match.specs.Helps.Fits.{pieces_fit, end_fits, pieces_from}
use Rattle.key_match.proofs.Bools.{same_test}
use Rattle.key_match.proofs.Leads.{end-here, end-end, end-past, slash-none_at, slash-some_at}
use Rattle.key_match.proofs.fit.fits_rest.Goals as goal

pub returns-in-Fits : goal.returns-in-Fits
returns-in-Fits c =
    let left = drop c.loop-to.mark.key c.args.key.now in
    sym (c.loop-to.invariant.same ∙ end-here (pieces_fit (pieces_from c.args.dialect c.args.pattern.now c.loop-to.mark)) left c.in-Fits.ensures)

pub loop-to-preserved-in-Rest : goal.loop-to-preserved-in-Rest
loop-to-preserved-in-Rest c =
    let to = c.in-Rest.to in
    let f = pieces_fit (pieces_from c.args.dialect c.args.pattern.now c.loop-to.mark) in
    let g = pieces_fit (pieces_from c.args.dialect c.args.pattern.now to) in
    let t = drop c.loop-to.mark.key c.args.key.now in
    let u = drop to.key c.args.key.now in
    let goes = c.in-Rest.ensures in
    let ahead = goes.ahead in
    record {
      same = c.loop-to.invariant.same ∙ same_test (end_fits f t) (end_fits g u) (λ x. end-end g u (goes.leads.anywhere x)) (λ x. end-here f t (goes.leads.same ∙ x));
      key_within = omega arith;
    }

pub loop-to-preserved-in-NotHere : goal.loop-to-preserved-in-NotHere
loop-to-preserved-in-NotHere c =
    let f = pieces_fit (pieces_from c.args.dialect c.args.pattern.now c.loop-to.mark) in
    record {
      same = c.loop-to.invariant.same ∙ end-past f c.args.key.now c.loop-to.mark.key c.in-NotHere.ensures (omega arith);
      key_within = omega arith;
    }

pub returns-then-slash-key : goal.returns-then-slash-key
returns-then-slash-key c =
    let f = pieces_fit (pieces_from c.args.dialect c.args.pattern.now c.loop-to.mark) in
    sym (c.loop-to.invariant.same ∙ slash-none_at f c.args.key.now c.loop-to.mark.key c.in-NotBeforeSlash.ensures (sym c.place_from-slash.ensures.place ∙ c.if-slash-key.true))

pub loop-to-preserved : goal.loop-to-preserved
loop-to-preserved c =
    let f = pieces_fit (pieces_from c.args.dialect c.args.pattern.now c.loop-to.mark) in
    record {
      same = c.loop-to.invariant.same ∙ slash-some_at f c.args.key.now c.loop-to.mark.key c.place_from-slash.result c.in-NotBeforeSlash.ensures c.place_from-slash.ensures.place (omega arith);
      key_within = omega arith;
    }
