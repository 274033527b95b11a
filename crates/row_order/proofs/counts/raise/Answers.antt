use Rattle.std.proofs.Common.{rules, arith}
use Rattle.row_order.proofs.counts.raise.Goals as goal

pub returns : goal.returns
returns c = record {
  len = search rules;
  raised = λ j a b. c.loop-k.invariant.raised j a (omega arith);
  front = λ j a. c.loop-k.invariant.front j a;
  back = λ j a. c.loop-k.invariant.back j (omega arith);
}
