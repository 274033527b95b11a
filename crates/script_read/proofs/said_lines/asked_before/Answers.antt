use Rattle.std.proofs.Common.{arith, rules}
use Rattle.script_read.proofs.ItemLemmas.{asked_more, asked_none}
use Rattle.script_read.proofs.said_lines.asked_before.Goals as goal

pub loop-count-init : goal.loop-count-init
loop-count-init c = record {
  passed = λ json number all. asked_none json number c.args.text.now all;
  few = omega arith;
  utf8 = search rules;
}

pub loop-count-preserved : goal.loop-count-preserved
loop-count-preserved c = record {
  passed = λ json number all.
      asked_more json number c.loop-count.count c.args.text.now c.loop-count.rest.now c.in-Some._line.now c.in-Some.after.now (c.loop-count.invariant.passed json number all) c.in-Some.ensures;
  few = omega (arith, c.loop-count-test.true);
  utf8 = search rules;
}
