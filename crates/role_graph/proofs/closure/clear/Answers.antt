use Rattle.std.proofs.Common.{length, arith}
use Rattle.role_graph.proofs.ResizeLemmas.{cleared_closed}
use Rattle.role_graph.proofs.closure.clear.Goals as goal

pub returns-clause-closed : goal.returns-clause-closed
returns-clause-closed c =
    cleared_closed (length c.args.square.now.cells) c.loop-node.node c.loop-node.square.cells (omega (arith, c.size-node-end.ensures.value, c.loop-node-test.false)) c.loop-node.invariant.cleared
