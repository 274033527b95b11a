use Rattle.std.proofs.Common.{◌≡◌, ◌∙◌, length, refl, ap, sym, subst, arith, length-append}
use Rattle.std.proofs.lemmas.List.Elements.{All-push}
use Rattle.policy_table.specs.Tables.{Fields}
use Rattle.std.specs.Prelude.{All}
use Rattle.role_domain.proofs.FitLemmas.{counted_all, fitting_more, fitting_past, told_as}
use Rattle.role_domain.proofs.patterns.fitting.Goals as goal

pub loop-row-preserved-then-not-fits : goal.loop-row-preserved-then-not-fits
loop-row-preserved-then-not-fits c = record {
  two = c.loop-row.invariant.two;
  few = omega arith;
  rows = λ test tells row.
      fitting_past test c.args.rows.now c.loop-row.row-index c.row-item.result row c.loop-row.pairs.items c.loop-row-test.true c.row-item.is
      (told_as c.args.fit c.args.text.now test c.domain_of.result.now _ c.fits.result tells c.domain_of.ensures c.fits.ensures ∙ c.if-not-fits.true) (c.loop-row.invariant.rows test tells row);
}

pub loop-row-preserved : goal.loop-row-preserved
loop-row-preserved c = record {
  two = subst (All (λ (row : Fields). length row ≡ 2)) (sym c.in_ok-push.ensures.items) (All-push (λ (row : Fields). length row ≡ 2) c.loop-row.pairs.items c.in_ok-pair_of.field-0 c.loop-row.invariant.two (subst (λ (row : Fields). length row ≡ 2) (sym c.in_ok-pair_of.ensures) refl));
  few = omega (arith, simp length-append at (ap length c.in_ok-push.ensures.items));
  rows = λ test tells row.
      fitting_more test c.args.rows.now c.loop-row.row-index c.row-item.result row c.in_ok-pair_of.field-0 c.loop-row.pairs.items c.push.new.self.items c.loop-row-test.true c.row-item.is
      (told_as c.args.fit c.args.text.now test c.domain_of.result.now _ c.fits.result tells c.domain_of.ensures c.fits.ensures ∙ c.if-not-fits.false) c.in_ok-pair_of.ensures c.in_ok-push.ensures.items
      (c.loop-row.invariant.rows test tells row);
}

pub returns-clause-rows : goal.returns-clause-rows
returns-clause-rows c = λ test tells row. c.loop-row.invariant.rows test tells row ∙ counted_all test row c.args.rows.now c.loop-row.row-index c.loop-row-test.false
