use Rattle.std.proofs.Common.{◌≡◌, ◌+◌, List, ℕ, length, ap, ◌∙◌, arith}
use Rattle.role_graph.proofs.Closed.{grows_both}
use Rattle.role_graph.proofs.ResizeLemmas.{length_widened, widen_grows}
use Rattle.role_graph.proofs.closure.widen.Goals as goal

pub add-preserved : goal.add-preserved
add-preserved c =
    let long : length c.add_node.new.square.cells ≡ length c.add.square.cells + 1 = ap (λ (cells : List (List ℕ)). length cells) c.add_node.ensures.cells ∙ length_widened c.add.square.cells in
    record {
      few = omega (arith, long, c.size.ensures.value, c.add-test.true);
      room = omega (arith, long, c.add.invariant.room, c.add_node.ensures.spare);
      grows = grows_both (λ a b. a ≡ b) c.args.square.now.cells c.add.square.cells c.add_node.new.square.cells c.add.invariant.grows
          (widen_grows c.add.square.cells c.add_node.new.square.cells c.add.invariant.grows.closed c.add_node.ensures.cells c.add_node.ensures.square);
    }
