use Rattle.std.proofs.Common.{get_or, drop, ◌∙◌, arith}
use Rattle.key_match.specs.Pieces.{Stretch, Rest}
use Rattle.key_match.specs.Helps.Fits.{pieces_fit, end_fits, pieces_from}
use Rattle.key_match.proofs.Bools.{false_by}
use Rattle.key_match.proofs.Leads.{stretch-here, end-stretch, LeadsTo-behind, LeadsTo-trans, keeps-rest, keeps-stretch, LeadsTo-past_at, not_slash-other}
use Rattle.key_match.proofs.fit.stretch.Goals as goal

pub returns-in-Fits : goal.returns-in-Fits
returns-in-Fits c =
    let left = drop c.loop-to.mark.key c.args.key.now in
    c.loop-to.invariant.leads.same ∙ stretch-here (pieces_fit (pieces_from c.args.dialect c.args.pattern.now c.loop-to.mark)) left c.in-Fits.ensures

pub returns-in-KeyEnded : goal.returns-in-KeyEnded
returns-in-KeyEnded c =
    let left = drop c.loop-to.mark.key c.args.key.now in
    let f = pieces_fit (pieces_from c.args.dialect c.args.pattern.now c.loop-to.mark) in
    false_by _ (end_fits f left) (λ x. end-stretch f left (c.loop-to.invariant.leads.anywhere x)) c.in-KeyEnded.ensures

pub returns-in-Rest : goal.returns-in-Rest
returns-in-Rest c =
    let ahead = c.in-Rest.ensures.ahead in
    record {
      leads = LeadsTo-behind _ _ (pieces_from c.args.dialect c.args.pattern.now c.in-Rest.to) Rest _ _ (drop c.in-Rest.to.key c.args.key.now) c.loop-to.invariant.leads c.in-Rest.ensures.leads keeps-rest;
      ahead = record { pattern_after = omega arith; pattern_within = omega arith; key_from = omega arith; key_within = omega arith };
    }

pub loop-to-preserved-in-Stretch : goal.loop-to-preserved-in-Stretch
loop-to-preserved-in-Stretch c =
    let ahead = c.in-Stretch.ensures.ahead in
    record {
      leads = LeadsTo-behind _ _ (pieces_from c.args.dialect c.args.pattern.now c.in-Stretch.to) Stretch _ _ (drop c.in-Stretch.to.key c.args.key.now) c.loop-to.invariant.leads c.in-Stretch.ensures.leads keeps-stretch;
      pattern_from = omega arith;
      key_from = omega arith;
      key_within = omega arith;
    }

pub loop-to-preserved : goal.loop-to-preserved
loop-to-preserved c =
    let mark = c.loop-to.mark in
    let key = c.args.key.now in
    record {
      leads =
          LeadsTo-trans _ _ _ _ _ _ c.loop-to.invariant.leads
          (LeadsTo-past_at (pieces_from c.args.dialect c.args.pattern.now mark) key mark.key c.in-Mismatch.ensures (omega arith) (not_slash-other (get_or key mark.key 0) c.if-key-mark-eq47.false));
      pattern_from = omega arith;
      key_from = omega arith;
      key_within = omega arith;
    }
