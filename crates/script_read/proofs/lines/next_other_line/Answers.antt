use Rattle.std.proofs.Common.{◌+◌, sym, arith, rules}
use Rattle.script_read.proofs.AskLemmas.{asked_first, asked_test, one_asked}
use Rattle.text_parts.specs.Full.{full_lines}
use Rattle.text_parts.specs.Numbered.{line}
use Rattle.script_read.proofs.lines.next_other_line.Goals as goal

pub loop-line-preserved : goal.loop-line-preserved
loop-line-preserved c = record {
  behind = one_asked (full_lines c.args.number c.args.text.now) (full_lines c.loop-line.at c.loop-line.rest.now) (full_lines (c.loop-line.at + 1) c.in-Some.after.now) (line c.loop-line.at c.in-Some._line.now) c.loop-line.invariant.behind
      (asked_first c.loop-line.at c.loop-line.rest.now c.in-Some._line.now c.in-Some.after.now c.in-Some.ensures) (sym (asked_test c.in-Some._line.now c.in-Some.ensures.begins));
  within = omega (arith, c.in-Some.ensures.shorter);
  shorter = omega (arith, c.in-Some.ensures.shorter);
  utf8 = search rules;
}
