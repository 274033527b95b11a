use Rattle.std.proofs.Common.{◌≡◌, ◌∙◌, true, set, sym, subst, arith}
use Rattle.role_graph.specs.Helps.Roles.{nodes_of}
use Rattle.role_graph.specs.Helps.Squares.{IsMarked}
use Rattle.role_graph.proofs.BridgeLemmas.{one_node}
use Rattle.role_graph.proofs.Marked.{mark_here}
use Rattle.role_graph.proofs.touched.touch_role.Goals as goal

pub returns-then-node-lt-MOST_NODES-clause-named : goal.returns-then-node-lt-MOST_NODES-clause-named
returns-then-node-lt-MOST_NODES-clause-named c = λ a low within same.
    let e : a ≡ c.in-Some.node = one_node (nodes_of c.args.roles.now) a c.in-Some.node c.in-Some.ensures.once within c.in-Some.ensures.found.0 (same ∙ sym c.in-Some.ensures.found.1) in
    subst (IsMarked (set c.args.marks.now c.in-Some.node true)) (sym e) (mark_here c.args.marks.now c.in-Some.node (omega (arith, c.if-node-lt-MOST_NODES.true, c.told-marks)))

pub returns-else-node-lt-MOST_NODES-clause-named : goal.returns-else-node-lt-MOST_NODES-clause-named
returns-else-node-lt-MOST_NODES-clause-named c = λ a low within same.
    let e : a ≡ c.in-Some.node = one_node (nodes_of c.args.roles.now) a c.in-Some.node c.in-Some.ensures.once within c.in-Some.ensures.found.0 (same ∙ sym c.in-Some.ensures.found.1) in
    absurd (omega (arith, e, low, c.if-node-lt-MOST_NODES.false))
