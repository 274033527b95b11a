use Rattle.std.proofs.Common.{◌≡◌, ◌<◌, ◌∙◌, arith, get_or, get_or-set_other, get_or-set_same, length, length-set, set}
use Rattle.dist_rows.specs.Squares.{cell_of}
use Rattle.role_graph.proofs.Mended.{next_place}
use Rattle.role_graph.proofs.repair.distances_from.Goals as goal

pub loop-other-preserved : goal.loop-other-preserved
loop-other-preserved c =
    let row = c.loop-other.row in
    let other = c.loop-other.other in
    let far = c.distance.result in
    let within : c.loop-other.other < length c.loop-other.row = omega (arith, c.loop-other-test.true, c.size-other-end.ensures.value, c.size-other-end.ensures.few, c.loop-other.invariant.long) in
    record {
      long = length-set row other far ∙ c.loop-other.invariant.long;
      told = next_place (λ b. get_or (set row other far) b 0 ≡ cell_of c.args.square.now.cells c.args.node b) other
          (λ b low. get_or-set_other row other b far 0 (λ same. absurd (omega (arith, low, same))) ∙ c.loop-other.invariant.told b low) (get_or-set_same row other far 0 within ∙ c.distance.ensures.cell);
    }

pub returns : goal.returns
returns c = λ b within. c.loop-other.invariant.told b (omega (arith, within, c.size-other-end.ensures.value, c.loop-other-test.false))
