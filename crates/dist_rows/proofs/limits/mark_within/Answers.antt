use Rattle.std.proofs.Common.{◌≡◌, ℕ, ◌+◌, ◌*◌, ◌≤◌, length, ap, ◌∙◌, arith}
use Rattle.dist_rows.proofs.LimitLemmas.{within_more}
use Rattle.dist_rows.specs.Helps.Rows.{fronted}
use Rattle.dist_rows.specs.Squares.{are_within}
use Rattle.dist_rows.proofs.limits.mark_within.Goals as goal

pub loop-group-preserved : goal.loop-group-preserved
loop-group-preserved c =
    let within : c.loop-group.group * 32 + 32 ≤ length c.args.cells.now = omega arith in
    let next : c.loop-group.group * 32 + 32 ≡ (c.loop-group.group + 1) * 32 = omega arith in
    within_more (c.loop-group.group * 32) c.args.limit c.args.cells.now c.above_limit.result c.args.out.now c.loop-group.out c.mark_group.new.out c.requires within c.loop-group.invariant c.above_limit.ensures c.mark_group.ensures
    ∙ ap (λ (n : ℕ). fronted n (are_within c.args.limit c.args.cells.now) c.args.out.now) next
