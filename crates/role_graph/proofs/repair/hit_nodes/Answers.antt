use Rattle.std.proofs.Common.{◌≡◌, ◌⊎◌, ◌+◌, ◌<◌, ℕ, arith, length}
use Rattle.dist_rows.specs.Squares.{cell_of}
use Rattle.role_graph.specs.Helps.Kept.{linked_of}
use Rattle.role_graph.specs.Helps.Mended.{IsKept}
use Rattle.role_graph.specs.Helps.Roles.{nodes_of}
use Rattle.role_graph.specs.Helps.Squares.{IsMarked, IsNear}
use Rattle.role_graph.proofs.Mended.{hit_still, hit_untouched, next_place, unmarked}
use Rattle.role_graph.proofs.repair.hit_nodes.Goals as goal

pub loop-node-init : goal.loop-node-init
loop-node-init c = λ from low. absurd (omega (arith, low))

pub loop-node-preserved-then-not-touched-node : goal.loop-node-preserved-then-not-touched-node
loop-node-preserved-then-not-touched-node c =
    let cells = c.args.square.now.cells in
    next_place (λ from. (a to : ℕ) → a < length cells → IsNear cells from to → cell_of cells a to ≡ 1 + cell_of cells a from → IsKept (linked_of c.args.links.now) (nodes_of c.args.roles.now) cells from to ⊎ IsMarked c.loop-node.hits a) c.loop-node.node c.loop-node.invariant
    (λ a to first near far.
    hit_untouched (linked_of c.args.links.now) (nodes_of c.args.roles.now) c.args.touched.now cells c.loop-node.hits c.loop-node.node to a c.requires.before (unmarked c.args.touched.now c.loop-node.node c.if-not-touched-node.true) near)

pub hit_by_node-requires-clause-closed : goal.hit_by_node-requires-clause-closed
hit_by_node-requires-clause-closed c = c.requires.before.closed

pub hit_by_node-requires-clause-long : goal.hit_by_node-requires-clause-long
hit_by_node-requires-clause-long c = c.requires.before.long

pub loop-node-preserved : goal.loop-node-preserved
loop-node-preserved c =
    let cells = c.args.square.now.cells in
    next_place (λ from. (a to : ℕ) → a < length cells → IsNear cells from to → cell_of cells a to ≡ 1 + cell_of cells a from → IsKept (linked_of c.args.links.now) (nodes_of c.args.roles.now) cells from to ⊎ IsMarked c.hit_by_node.new.hits a) c.loop-node.node
    (λ from low a to first near far. hit_still (linked_of c.args.links.now) (nodes_of c.args.roles.now) cells c.loop-node.hits c.hit_by_node.new.hits from to a c.hit_by_node.ensures.keeps (c.loop-node.invariant from low a to first near far))
    c.hit_by_node.ensures.hits

pub returns : goal.returns
returns c = λ a from to first near far. c.loop-node.invariant from (let here = near.first in omega (arith, here, c.size-node-end.ensures.value, c.loop-node-test.false)) a to first near far
