use Rattle.std.proofs.Common.{List, ℕ, ap, ◌∙◌}
use Rattle.std.specs.Simd.Lanes.{put_chunk}
use Rattle.dist_rows.specs.Squares.{lowered}
use Rattle.dist_rows.proofs.LaneLemmas.{lowered_lanes}
use Rattle.dist_rows.proofs.lanes.lower.Goals as goal

pub returns : goal.returns
returns c =
    c.store.ensures
    ∙ ap (λ (l : List ℕ). put_chunk c.args.at c.args.cells.now l)
    (lowered_lanes c.args.add c.load.result c.args.others c.sums-sums.result c.least.result c.fits-others.0 c.sums-sums.ensures c.least.ensures ∙ ap (λ (l : List ℕ). lowered c.args.add l c.args.others) c.load.ensures)
