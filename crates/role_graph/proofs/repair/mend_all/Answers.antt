use Rattle.std.proofs.Common.{◌∙◌, arith, refl}
use Rattle.role_graph.proofs.Mended.{by_all_begins, by_all_more, by_all_skips, told_more, unmarked}
use Rattle.role_graph.proofs.repair.mend_all.Goals as goal

pub loop-node-init : goal.loop-node-init
loop-node-init c = record {
  long = refl;
  spare = refl;
  lower = λ a b first second. omega arith;
  mends = λ linked names old mending. by_all_begins linked names old c.args.hits.now c.args.square.now.cells mending;
}

pub loop-node-preserved-then-not-hits-node : goal.loop-node-preserved-then-not-hits-node
loop-node-preserved-then-not-hits-node c = record {
  long = c.loop-node.invariant.long;
  spare = c.loop-node.invariant.spare;
  lower = c.loop-node.invariant.lower;
  mends = λ linked names old mending.
      by_all_skips linked names old c.args.hits.now c.loop-node.node c.args.square.now.cells c.loop-node.square.cells (unmarked c.args.hits.now c.loop-node.node c.if-not-hits-node.true) (c.loop-node.invariant.mends linked names old mending);
}

pub mend_row-requires : goal.mend_row-requires
mend_row-requires c = omega (arith, c.loop-node.invariant.long, c.loop-node-test.true, c.size-node-end.ensures.value)

pub loop-node-preserved : goal.loop-node-preserved
loop-node-preserved c = record {
  long = c.mend_row.ensures.long ∙ c.loop-node.invariant.long;
  spare = c.mend_row.ensures.spare ∙ c.loop-node.invariant.spare;
  lower = λ a b first second.
      let less = c.mend_row.ensures.lower a b (omega (arith, first, c.loop-node.invariant.long)) (omega (arith, second, c.loop-node.invariant.long)) in let before = c.loop-node.invariant.lower a b first second in omega (arith, less, before);
  mends = λ linked names old mending.
      let all = c.loop-node.invariant.mends linked names old mending in
      by_all_more linked names old c.args.hits.now c.loop-node.node c.args.square.now.cells c.loop-node.square.cells c.mend_row.new.square.cells c.if-not-hits-node.false c.loop-node.invariant.long
      (c.mend_row.ensures.mending linked names old c.args.hits.now c.if-not-hits-node.false all.mending) c.mend_row.ensures.lower c.loop-node.invariant.lower
      (c.mend_row.ensures.by linked names old c.args.hits.now c.if-not-hits-node.false all.mending) all;
}

pub returns-clause-mending : goal.returns-clause-mending
returns-clause-mending c = λ linked names old mending. (c.loop-node.invariant.mends linked names old mending).mending

pub returns-clause-told : goal.returns-clause-told
returns-clause-told c = λ linked names old most mending told.
    told_more linked names old c.args.hits.now most c.loop-node.node c.args.square.now.cells c.loop-node.square.cells (omega (arith, c.size-node-end.ensures.value, c.loop-node-test.false)) mending c.loop-node.invariant.lower
    (c.loop-node.invariant.mends linked names old mending) told

pub returns-clause-spare : goal.returns-clause-spare
returns-clause-spare c = c.loop-node.invariant.spare
