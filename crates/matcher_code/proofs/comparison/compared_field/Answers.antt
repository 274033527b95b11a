use Rattle.std.proofs.Common.{arith, ◌+◌, ap, refl, ◌∙◌}
use Rattle.std.proofs.lemmas.Option.{slice_get_read}
use Rattle.matcher_read.specs.declared.tree.Operator.{Operator}
use Rattle.matcher_code.specs.declared.op.Instruction.TheVariants as i
use Rattle.matcher_code.proofs.comparison.compared_field.Goals as goal

pub returns : goal.returns
returns c = record {
  second = c.index-ops-second.result;
  third = c.index-ops-third.result;
  behind = slice_get_read c.args.ops.now _ (c.args.place + 1) c.index-ops-second.result refl (omega arith) c.index-ops-second.is;
  takes = c.in_ok-field.ensures;
  last = slice_get_read c.args.ops.now _ (c.args.place + 2) c.index-ops-third.result refl (omega arith) c.index-ops-third.is;
  compares = c.in_ok-operator.ensures ∙ ap (λ (operator : Operator). i.Binary operator) c.in-Equal.is;
}
