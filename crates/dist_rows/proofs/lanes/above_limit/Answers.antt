use Rattle.std.proofs.Common.{◌-◌, ℕ, length, map, ap, ◌∙◌}
use Rattle.std.proofs.lemmas.Simd.{length-chunk}
use Rattle.dist_rows.proofs.LaneLemmas.{above_lanes}
use Rattle.dist_rows.proofs.lanes.above_limit.Goals as goal

pub returns : goal.returns
returns c =
    above_lanes c.args.limit c.load.result c.above.result (ap length c.load.ensures ∙ length-chunk c.args.at 32 c.args.cells.now c.requires) c.above.ensures ∙ ap (map (λ (d : ℕ). d - c.args.limit)) c.load.ensures
