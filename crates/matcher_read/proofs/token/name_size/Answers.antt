use Rattle.std.proofs.Common.{sym, ◌∙◌, arith}
use Rattle.matcher_read.proofs.FrontLemmas.{name_more, name_stop, name_all}
use Rattle.matcher_read.proofs.token.name_size.Goals as goal

pub loop-size-preserved : goal.loop-size-preserved
loop-size-preserved c = record {
  within = omega arith;
  rest = name_more c.args.bytes.now c.loop-size.size c.loop-size-test.true (sym c.goes_on.ensures ∙ c.if-goes_on.true) c.loop-size.invariant.rest;
}

pub returns-else-goes_on : goal.returns-else-goes_on
returns-else-goes_on c = name_stop c.args.bytes.now c.loop-size.size c.loop-size-test.true (sym c.goes_on.ensures ∙ c.if-goes_on.false) c.loop-size.invariant.rest

pub returns-after-loop-size : goal.returns-after-loop-size
returns-after-loop-size c = name_all c.args.bytes.now c.loop-size.size c.loop-size-test.false c.loop-size.invariant.rest
