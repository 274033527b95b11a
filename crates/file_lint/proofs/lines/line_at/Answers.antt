use Rattle.std.proofs.Common.{◌≡◌, ◌+◌, true, false, sym, ap, ◌∙◌, arith, rules}
use Rattle.text_parts.specs.Numbered.{numbered, text_lines}
use Rattle.file_lint.specs.Places.{line_at}
use Rattle.file_lint.proofs.PlaceLemmas.{line_at-found, line_at-next, line_at-none, numbered_first, numbered_none}
use Rattle.file_lint.proofs.lines.line_at.Goals as goal

pub returns-then-at-number : goal.returns-then-at-number
returns-then-at-number c =
    sym (line_at-found c.args.number c.loop-line.at c.in-Some.line.now (numbered (c.loop-line.at + 1) (text_lines c.in-Some.after.now)) c.if-at-number.true)
    ∙ ap (line_at c.args.number) (sym (numbered_first c.loop-line.at c.loop-line.rest.now c.in-Some.line.now c.in-Some.after.now c.in-Some.ensures.first)) ∙ c.loop-line.invariant.left

pub loop-line-preserved : goal.loop-line-preserved
loop-line-preserved c = record {
  left = sym (line_at-next c.args.number c.loop-line.at c.in-Some.line.now (numbered (c.loop-line.at + 1) (text_lines c.in-Some.after.now)) c.if-at-number.false)
      ∙ ap (line_at c.args.number) (sym (numbered_first c.loop-line.at c.loop-line.rest.now c.in-Some.line.now c.in-Some.after.now c.in-Some.ensures.first)) ∙ c.loop-line.invariant.left;
  within = omega (arith, c.in-Some.ensures.shorter, c.loop-line.invariant.within);
  utf8 = search rules;
}

pub returns : goal.returns
returns c = sym (line_at-none c.args.number) ∙ ap (line_at c.args.number) (sym (numbered_none c.loop-line.at c.loop-line.rest.now c.in_default.ensures.none)) ∙ c.loop-line.invariant.left
