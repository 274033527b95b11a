use Rattle.std.proofs.Common.{arith}
use Rattle.perm_base.specs.FieldSteps.{ends_plain}
use Rattle.perm_base.proofs.MarkLemmas.{none_longer}
use Rattle.perm_base.proofs.line_ends.plain_front.Goals as goal

pub returns-then-above-lt8-clause-none : goal.returns-then-above-lt8-clause-none
returns-then-above-lt8-clause-none c = none_longer ends_plain c.loop-at.at c.above_comma-above.result c.args.bytes.now c.loop-at.invariant.none c.above_comma-above.ensures.none

pub loop-at-preserved : goal.loop-at-preserved
loop-at-preserved c = record {
  within = omega arith;
  none = none_longer ends_plain c.loop-at.at c.above_comma-above.result c.args.bytes.now c.loop-at.invariant.none c.above_comma-above.ensures.none;
}
