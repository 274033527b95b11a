use Rattle.std.proofs.Common.{◌≡◌, ◌+◌, ◌<◌, ◌∙◌, ℕ, true, ap, arith, length, length-set, set, sym}
use Rattle.dist_rows.specs.Squares.{cell_of}
use Rattle.role_graph.specs.Helps.Squares.{IsMarked}
use Rattle.role_graph.proofs.Marked.{mark_here, mark_stays}
use Rattle.role_graph.proofs.Mended.{next_place}
use Rattle.role_graph.proofs.repair.hit_through.Goals as goal

pub loop-node-init : goal.loop-node-init
loop-node-init c = record { long = c.told-hits; keeps = λ a marked. marked; hits = λ a low. absurd (omega (arith, low)) }

pub loop-node-preserved-then-not-is_next : goal.loop-node-preserved-then-not-is_next
loop-node-preserved-then-not-is_next c = record {
  long = c.loop-node.invariant.long;
  keeps = c.loop-node.invariant.keeps;
  hits = next_place (λ a. cell_of c.args.square.now.cells a c.args.to ≡ 1 + cell_of c.args.square.now.cells a c.args.from → IsMarked c.loop-node.hits a) c.loop-node.node c.loop-node.invariant.hits
      (λ far. absurd (c.is_next.ensures c.if-not-is_next.true (c.distance-in-loop-node.ensures.cell ∙ far ∙ ap (λ (n : ℕ). 1 + n) (sym c.distance.ensures.cell))));
}

pub loop-node-preserved : goal.loop-node-preserved
loop-node-preserved c =
    let within : c.loop-node.node < length c.loop-node.hits = omega (arith, c.loop-node-test.true, c.size-node-end.ensures.value, c.size-node-end.ensures.few, c.loop-node.invariant.long) in
    record {
      long = length-set c.loop-node.hits c.loop-node.node true ∙ c.loop-node.invariant.long;
      keeps = λ a marked. mark_stays c.loop-node.hits c.loop-node.node a within (c.loop-node.invariant.keeps a marked);
      hits = next_place (λ a. cell_of c.args.square.now.cells a c.args.to ≡ 1 + cell_of c.args.square.now.cells a c.args.from → IsMarked (set c.loop-node.hits c.loop-node.node true) a) c.loop-node.node
          (λ a low far. mark_stays c.loop-node.hits c.loop-node.node a within (c.loop-node.invariant.hits a low far)) (λ far. mark_here c.loop-node.hits c.loop-node.node within);
    }

pub returns-clause-keeps : goal.returns-clause-keeps
returns-clause-keeps c = c.loop-node.invariant.keeps

pub returns-clause-hits : goal.returns-clause-hits
returns-clause-hits c = λ a first far. c.loop-node.invariant.hits a (omega (arith, first, c.size-node-end.ensures.value, c.loop-node-test.false)) far
