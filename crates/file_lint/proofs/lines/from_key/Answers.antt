use Rattle.std.proofs.Common.{◌≡◌, ◌+◌, true, false, sym, ap, ◌∙◌, arith, rules}
use Rattle.text_parts.specs.Numbered.{numbered, text_lines}
use Rattle.file_lint.specs.Places.{from_key}
use Rattle.file_lint.proofs.PlaceLemmas.{from_key-found, from_key-next, from_key-none, numbered_first, numbered_none}
use Rattle.file_lint.proofs.lines.from_key.Goals as goal

pub returns-then-begins_with_key-clause-found : goal.returns-then-begins_with_key-clause-found
returns-then-begins_with_key-clause-found c =
    sym (from_key-found c.args.key.now c.loop-line.continued c.loop-line.number c.in-Some.line.now (numbered (c.loop-line.number + 1) (text_lines c.in-Some.after.now)) (sym c.begins_with_key.ensures ∙ c.if-begins_with_key.true))
    ∙ ap (from_key c.args.key.now c.loop-line.continued) (sym (numbered_first c.loop-line.number c.loop-line.rest.now c.in-Some.line.now c.in-Some.after.now c.in-Some.ensures.first)) ∙ c.loop-line.invariant.left

pub loop-line-preserved : goal.loop-line-preserved
loop-line-preserved c = record {
  left = ap (λ on. from_key c.args.key.now on (numbered (c.loop-line.number + 1) (text_lines c.in-Some.after.now))) c.goes_on-continued.ensures
      ∙ sym (from_key-next c.args.key.now c.loop-line.continued c.loop-line.number c.in-Some.line.now (numbered (c.loop-line.number + 1) (text_lines c.in-Some.after.now)) (sym c.begins_with_key.ensures ∙ c.if-begins_with_key.false))
      ∙ ap (from_key c.args.key.now c.loop-line.continued) (sym (numbered_first c.loop-line.number c.loop-line.rest.now c.in-Some.line.now c.in-Some.after.now c.in-Some.ensures.first)) ∙ c.loop-line.invariant.left;
  within = omega (arith, c.in-Some.ensures.shorter, c.loop-line.invariant.within);
  utf8 = search rules;
}

pub returns-clause-found : goal.returns-clause-found
returns-clause-found c =
    sym (from_key-none c.args.key.now c.loop-line.continued) ∙ ap (from_key c.args.key.now c.loop-line.continued) (sym (numbered_none c.loop-line.number c.loop-line.rest.now c.in_default.ensures.none)) ∙ c.loop-line.invariant.left
