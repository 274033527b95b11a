use Rattle.std.proofs.Common.{◌<◌, ◌∙◌, length, length-set, arith, true}
use Rattle.role_graph.proofs.Marked.{marks_from}
use Rattle.role_graph.proofs.touched.nodes_from.Goals as goal

pub loop-node-preserved : goal.loop-node-preserved
loop-node-preserved c =
    let within : c.loop-node.node < length c.loop-node.marks = omega (arith, c.loop-node.invariant.long, c.loop-node-test.true) in
    record {
      long = length-set c.loop-node.marks c.loop-node.node true ∙ c.loop-node.invariant.long;
      marked = λ a past low. marks_from c.loop-node.marks c.args.known c.loop-node.node a within c.loop-node.invariant.marked past low;
    }
