use Rattle.std.proofs.Common.{◌≡◌, true, false, sym, ◌∙◌, arith, rules}
use Rattle.script_read.specs.Lines.{ends_block}
use Rattle.script_read.proofs.EndLemmas.{behind_here, behind_none, behind_on, number_here, number_none, number_on}
use Rattle.script_read.proofs.lines.block_end.Goals as goal

pub returns-then-ends_block-clause-end : goal.returns-then-ends_block-clause-end
returns-then-ends_block-clause-end c =
    let ends : ends_block c.in-Some.line.now ≡ true = sym c.ends_block.ensures ∙ c.if-ends_block.true in
    sym (number_here c.loop-at.first c.in-Some.at c.loop-at.rest.now c.in-Some.line.now c.in-Some.after.now c.in-Some.ensures.first ends) ∙ c.loop-at.invariant.number

pub returns-then-ends_block-clause-behind : goal.returns-then-ends_block-clause-behind
returns-then-ends_block-clause-behind c =
    let ends : ends_block c.in-Some.line.now ≡ true = sym c.ends_block.ensures ∙ c.if-ends_block.true in
    sym c.loop-at.invariant.behind ∙ behind_here c.loop-at.first c.in-Some.at c.loop-at.rest.now c.in-Some.line.now c.in-Some.after.now c.in-Some.ensures.first ends

pub loop-at-preserved : goal.loop-at-preserved
loop-at-preserved c =
    let goes : ends_block c.in-Some.line.now ≡ false = sym c.ends_block.ensures ∙ c.if-ends_block.false in
    record {
      number = sym (number_on c.loop-at.first c.in-Some.at c.loop-at.rest.now c.in-Some.line.now c.in-Some.after.now c.in-Some.ensures.first goes) ∙ c.loop-at.invariant.number;
      behind = sym (behind_on c.loop-at.first c.in-Some.at c.loop-at.rest.now c.in-Some.line.now c.in-Some.after.now c.in-Some.ensures.first goes) ∙ c.loop-at.invariant.behind;
      within = omega (arith, c.in-Some.ensures.within);
      shorter = omega (arith, c.in-Some.ensures.shorter);
      utf8 = search rules;
    }

pub returns-clause-end : goal.returns-clause-end
returns-clause-end c = sym (number_none _ c.in_default.ensures.none) ∙ c.loop-at.invariant.number

pub returns-clause-none : goal.returns-clause-none
returns-clause-none c = sym c.loop-at.invariant.behind ∙ behind_none _ c.in_default.ensures.none
