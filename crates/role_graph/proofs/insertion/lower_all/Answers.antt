use Rattle.std.proofs.Common.{arith}
use Rattle.role_graph.proofs.Closed.{lowered_more}
use Rattle.role_graph.proofs.insertion.lower_all.Goals as goal

pub loop-node-preserved : goal.loop-node-preserved
loop-node-preserved c =
    lowered_more c.args.square.now.cells c.loop-node.square.cells c.lower_row.new.square.cells c.args.from c.args.to c.loop-node.node c.requires.closed c.requires.from c.requires.to
    (omega (arith, c.size-node-end.ensures.value, c.loop-node-test.true)) c.loop-node.invariant c.lower_row.ensures.long c.lower_row.ensures.square c.lower_row.ensures.own c.lower_row.ensures.others
