use Rattle.std.proofs.Common.{◌≡◌, ◌⊎◌, inr, ◌+◌, ◌<◌, ℕ, arith, length}
use Rattle.dist_rows.specs.Squares.{cell_of}
use Rattle.role_graph.specs.Helps.Kept.{linked_of}
use Rattle.role_graph.specs.Helps.Mended.{IsKept}
use Rattle.role_graph.specs.Helps.Roles.{nodes_of}
use Rattle.role_graph.specs.Helps.Squares.{IsMarked, IsNear}
use Rattle.role_graph.proofs.Mended.{hit_linked, hit_same, hit_still, next_place}
use Rattle.role_graph.proofs.repair.hit_by_node.Goals as goal

pub loop-other-init : goal.loop-other-init
loop-other-init c = record { keeps = λ a marked. marked; hits = λ to low. absurd (omega (arith, low)) }

pub loop-other-preserved-then-distance-ne1 : goal.loop-other-preserved-then-distance-ne1
loop-other-preserved-then-distance-ne1 c =
    let cells = c.args.square.now.cells in
    record {
      keeps = c.loop-other.invariant.keeps;
      hits = next_place (λ to. (a : ℕ) → a < length cells → IsNear cells c.args.node to → cell_of cells a to ≡ 1 + cell_of cells a c.args.node → IsKept (linked_of c.args.links.now) (nodes_of c.args.roles.now) cells c.args.node to ⊎ IsMarked c.loop-other.hits a) c.loop-other.other c.loop-other.invariant.hits
          (λ a first near far. hit_same (linked_of c.args.links.now) (nodes_of c.args.roles.now) cells c.loop-other.hits c.args.node c.loop-other.other c.distance.result a c.requires.closed c.distance.ensures.cell c.if-distance-ne1.true near);
    }

pub loop-other-preserved-then-linked-other : goal.loop-other-preserved-then-linked-other
loop-other-preserved-then-linked-other c =
    let cells = c.args.square.now.cells in
    let within : c.loop-other.other < length (nodes_of c.args.roles.now) = omega (arith, c.loop-other-test.true, c.size-other-end.ensures.value, c.requires.long) in
    let link = (c.linked_nodes-linked.ensures c.loop-other.other (omega (arith, within, c.requires.few)) within).0 c.if-linked-other.true in
    record {
      keeps = c.loop-other.invariant.keeps;
      hits = next_place (λ to. (a : ℕ) → a < length cells → IsNear cells c.args.node to → cell_of cells a to ≡ 1 + cell_of cells a c.args.node → IsKept (linked_of c.args.links.now) (nodes_of c.args.roles.now) cells c.args.node to ⊎ IsMarked c.loop-other.hits a) c.loop-other.other c.loop-other.invariant.hits
          (λ a first near far. hit_linked (linked_of c.args.links.now) (nodes_of c.args.roles.now) cells c.loop-other.hits c.args.node c.loop-other.other a link near);
    }

pub loop-other-preserved : goal.loop-other-preserved
loop-other-preserved c =
    let cells = c.args.square.now.cells in
    record {
      keeps = λ a marked. c.hit_through.ensures.keeps a (c.loop-other.invariant.keeps a marked);
      hits = next_place (λ to. (a : ℕ) → a < length cells → IsNear cells c.args.node to → cell_of cells a to ≡ 1 + cell_of cells a c.args.node → IsKept (linked_of c.args.links.now) (nodes_of c.args.roles.now) cells c.args.node to ⊎ IsMarked c.hit_through.new.hits a) c.loop-other.other
          (λ to low a first near far.
          hit_still (linked_of c.args.links.now) (nodes_of c.args.roles.now) cells c.loop-other.hits c.hit_through.new.hits c.args.node to a c.hit_through.ensures.keeps (c.loop-other.invariant.hits to low a first near far))
          (λ a first near far. inr (c.hit_through.ensures.hits a first far));
    }

pub returns-clause-keeps : goal.returns-clause-keeps
returns-clause-keeps c = c.loop-other.invariant.keeps

pub returns-clause-hits : goal.returns-clause-hits
returns-clause-hits c = λ a to first near far. c.loop-other.invariant.hits to (let here = near.second in omega (arith, here, c.size-other-end.ensures.value, c.loop-other-test.false)) a first near far
