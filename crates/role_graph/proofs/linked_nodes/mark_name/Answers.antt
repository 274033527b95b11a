use Rattle.std.proofs.Common.{arith}
use Rattle.role_graph.specs.Helps.Roles.{nodes_of}
use Rattle.role_graph.proofs.MarkedLinks.{named_far, named_marked, named_not}
use Rattle.role_graph.proofs.linked_nodes.mark_name.Goals as goal

pub returns-in_default : goal.returns-in_default
returns-in_default c = λ b low within. named_not (nodes_of c.args.roles.now) c.args.name.now c.args.marks.now b c.in_default.ensures.none within

pub returns-then-node-lt-MOST_NODES : goal.returns-then-node-lt-MOST_NODES
returns-then-node-lt-MOST_NODES c = λ b low within.
    named_marked (nodes_of c.args.roles.now) c.args.name.now c.in-Some.node c.args.marks.now b c.in-Some.ensures.once c.in-Some.ensures.found.0 c.in-Some.ensures.found.1 (omega (arith, c.if-node-lt-MOST_NODES.true, c.told-marks)) within

pub returns-else-node-lt-MOST_NODES : goal.returns-else-node-lt-MOST_NODES
returns-else-node-lt-MOST_NODES c = λ b low within.
    named_far (nodes_of c.args.roles.now) c.args.name.now c.in-Some.node c.args.marks.now b c.in-Some.ensures.once c.in-Some.ensures.found.0 c.in-Some.ensures.found.1 (omega (arith, c.if-node-lt-MOST_NODES.false)) low within
