use Rattle.std.proofs.Common.{◌≡◌, true, false, sym, ◌∙◌, arith, rules}
use Rattle.text_parts.specs.Passed.{is_passed}
use Rattle.text_parts.proofs.FullLemmas.{full_lines-first, full_lines-none, full_lines-passed}
use Rattle.text_parts.proofs.full.next_full_line.Goals as goal

pub returns-then-not-is_passed-clause-first : goal.returns-then-not-is_passed-clause-first
returns-then-not-is_passed-clause-first c =
    let counts : is_passed c.in-Some.line.now ≡ false = sym c.is_passed.ensures ∙ c.if-not-is_passed.true in
    sym c.loop-line.invariant.lines ∙ full_lines-first c.loop-line.at c.loop-line.rest.now c.in-Some.line.now c.in-Some.after.now c.in-Some.ensures.first counts

pub loop-line-preserved : goal.loop-line-preserved
loop-line-preserved c =
    let passed : is_passed c.in-Some.line.now ≡ true = sym c.is_passed.ensures ∙ c.if-not-is_passed.false in
    record {
      lines = sym (full_lines-passed c.loop-line.at c.loop-line.rest.now c.in-Some.line.now c.in-Some.after.now c.in-Some.ensures.first passed) ∙ c.loop-line.invariant.lines;
      within = omega (arith, c.in-Some.ensures.shorter);
      shorter = omega (arith, c.in-Some.ensures.shorter);
      utf8 = search rules;
    }

pub returns-clause-none : goal.returns-clause-none
returns-clause-none c = sym c.loop-line.invariant.lines ∙ full_lines-none c.loop-line.at c.loop-line.rest.now c.in_default.ensures.none
