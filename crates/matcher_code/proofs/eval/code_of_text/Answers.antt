use Rattle.matcher_read.specs.Expression.{expression}
use Rattle.matcher_code.proofs.eval.code_of_text.Goals as goal

pub returns-clause-code : goal.returns-clause-code
returns-clause-code c = record {
  rule = expression c.in-Ok.rule;
  says = c.in-Ok.ensures.found;
  ops = c.in-Ok-build_rule.ensures.ops;
  height = c.in-Ok-build_rule.ensures.height;
}
