use Rattle.std.proofs.Common.{◌≡◌, true, false, sym, ◌∙◌, arith, rules}
use Rattle.text_parts.specs.Passed.{is_passed}
use Rattle.script_read.proofs.RequestLemmas.{requests_of-none, requests_of-passed, requests_of-first}
use Rattle.script_read.proofs.requests.next_request.Goals as goal

pub returns-then-not-is_passed-clause-first : goal.returns-then-not-is_passed-clause-first
returns-then-not-is_passed-clause-first c =
    let kept : is_passed c.in-Some.line.now ≡ false = sym c.is_passed.ensures ∙ c.if-not-is_passed.true in
    sym c.loop-line.invariant.same ∙ requests_of-first _ _ _ c.in-Some.ensures.first kept

pub loop-line-preserved : goal.loop-line-preserved
loop-line-preserved c =
    let passed : is_passed c.in-Some.line.now ≡ true = sym c.is_passed.ensures ∙ c.if-not-is_passed.false in
    record {
      same = sym (requests_of-passed _ _ _ c.in-Some.ensures.first passed) ∙ c.loop-line.invariant.same;
      within = omega (arith, c.in-Some.ensures.shorter);
      utf8 = search rules;
    }

pub returns-clause-none : goal.returns-clause-none
returns-clause-none c = sym c.loop-line.invariant.same ∙ requests_of-none _ c.in_default.ensures.none
