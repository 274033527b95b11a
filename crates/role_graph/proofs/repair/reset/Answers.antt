use Rattle.std.proofs.Common.{◌∙◌, arith, refl}
use Rattle.role_graph.specs.Helps.Kept.{linked_of}
use Rattle.role_graph.specs.Helps.Roles.{nodes_of}
use Rattle.role_graph.proofs.Mended.{mending_begins, resetting_begins, resetting_more, resetting_skips, unmarked}
use Rattle.role_graph.proofs.repair.reset.Goals as goal

pub loop-node-init : goal.loop-node-init
loop-node-init c = record { spare = refl; rows = resetting_begins (linked_of c.args.links.now) (nodes_of c.args.roles.now) c.args.square.now.cells c.args.hits.now c.size-node-end.ensures.square }

pub loop-node-preserved-then-not-hits-node : goal.loop-node-preserved-then-not-hits-node
loop-node-preserved-then-not-hits-node c = record {
  spare = c.loop-node.invariant.spare;
  rows =
      resetting_skips (linked_of c.args.links.now) (nodes_of c.args.roles.now) c.args.square.now.cells c.args.hits.now c.loop-node.node c.loop-node.square.cells (unmarked c.args.hits.now c.loop-node.node c.if-not-hits-node.true) c.loop-node.invariant.rows;
}

pub reset_row-requires-clause-long : goal.reset_row-requires-clause-long
reset_row-requires-clause-long c = omega (arith, c.loop-node.invariant.rows.long, c.requires.before.long)

pub reset_row-requires-clause-node : goal.reset_row-requires-clause-node
reset_row-requires-clause-node c = omega (arith, c.loop-node.invariant.rows.long, c.loop-node-test.true, c.size-node-end.ensures.value)

pub loop-node-preserved : goal.loop-node-preserved
loop-node-preserved c = record {
  spare = c.reset_row.ensures.spare ∙ c.loop-node.invariant.spare;
  rows =
      resetting_more (linked_of c.args.links.now) (nodes_of c.args.roles.now) c.args.square.now.cells c.args.hits.now c.loop-node.node c.loop-node.square.cells c.reset_row.new.square.cells c.if-not-hits-node.false c.reset_row.ensures.long
      c.reset_row.ensures.square c.reset_row.ensures.others
      (c.reset_row.ensures.reset c.args.square.now.cells (λ b. c.loop-node.invariant.rows.later c.loop-node.node b (omega arith)) c.loop-node.invariant.rows.long c.requires.before) c.loop-node.invariant.rows;
}

pub returns-clause-mending : goal.returns-clause-mending
returns-clause-mending c =
    mending_begins (linked_of c.args.links.now) (nodes_of c.args.roles.now) c.args.touched.now c.args.square.now.cells c.args.hits.now c.loop-node.node c.loop-node.square.cells c.requires.before c.requires.hits
    (omega (arith, c.size-node-end.ensures.value, c.loop-node-test.false)) c.loop-node.invariant.rows

pub returns-clause-spare : goal.returns-clause-spare
returns-clause-spare c = c.loop-node.invariant.spare
