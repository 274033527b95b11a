use Rattle.std.proofs.Common.{sym, ◌∙◌, arith}
use Rattle.perm_base.specs.FieldSteps.{is_mark}
use Rattle.perm_base.proofs.MarkLemmas.{any_in_group, any_in_last, none_longer}
use Rattle.perm_base.proofs.marks.is_marked_by.Goals as goal

pub returns-then-is_group_marked : goal.returns-then-is_group_marked
returns-then-is_group_marked g c = sym (any_in_group is_mark c.loop-at.at g.row.N c.args.bytes.now (sym c.is_group_marked.ensures ∙ c.if-is_group_marked.true))

pub loop-at-preserved : goal.loop-at-preserved
loop-at-preserved g c = record {
  within = omega arith;
  none = none_longer is_mark c.loop-at.at g.row.N c.args.bytes.now c.loop-at.invariant.none (sym c.is_group_marked.ensures ∙ c.if-is_group_marked.false);
}

pub returns : goal.returns
returns g c = c.is_group_marked-2.ensures ∙ any_in_last is_mark c.loop-at.at g.row.N c.args.bytes.now (omega arith) (omega arith) c.loop-at.invariant.none
