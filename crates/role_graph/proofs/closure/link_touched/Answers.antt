use Rattle.std.proofs.Common.{arith}
use Rattle.role_graph.specs.Helps.Kept.{linked_of}
use Rattle.role_graph.specs.Helps.Roles.{nodes_of}
use Rattle.role_graph.proofs.BridgeLemmas.{exact_from}
use Rattle.role_graph.proofs.LinkedLemmas.{linking_more}
use Rattle.role_graph.proofs.closure.link_touched.Goals as goal

pub loop-node-preserved : goal.loop-node-preserved
loop-node-preserved c =
    linking_more (linked_of c.args.links.now) (nodes_of c.args.roles.now) c.args.touched.now c.loop-node.node c.loop-node.square.cells c.link_node.new.square.cells c.link_node.ensures.long c.link_node.ensures.grows c.link_node.ensures.whole c.loop-node.invariant

pub returns : goal.returns
returns c =
    exact_from (linked_of c.args.links.now) (nodes_of c.args.roles.now) c.args.touched.now c.loop-node.node c.loop-node.square.cells c.requires.nodes
    (omega (arith, c.size-node-end.ensures.value, c.loop-node-test.false, c.requires.linking.long)) c.loop-node.invariant
