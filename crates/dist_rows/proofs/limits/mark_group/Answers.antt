use Rattle.std.proofs.Common.{◌≡◌, ℕ, ◌+◌, length, map, refl, ap, ◌∙◌, arith}
use Rattle.std.specs.Prelude.{◌==◌}
use Rattle.std.specs.Simd.Lanes.{put_chunk}
use Rattle.std.proofs.lemmas.List.{length-map}
use Rattle.dist_rows.proofs.LimitLemmas.{group_begins, group_ends, group_more}
use Rattle.dist_rows.specs.Helps.Rows.{fronted}
use Rattle.dist_rows.proofs.limits.mark_group.Goals as goal

pub loop-i-init : goal.loop-i-init
loop-i-init c =
    let size : length (map (λ d. d == 0) c.args.above.now) ≡ 32 = length-map c.args.above.now (λ d. d == 0) ∙ c.told-above in
    group_begins c.args.at c.args.out.now (map (λ d. d == 0) c.args.above.now) (omega (arith, size, c.requires))

pub loop-i-preserved : goal.loop-i-preserved
loop-i-preserved c =
    group_more c.args.at c.loop-i.i c.args.above.now c.args.out.now c.loop-i.out _ (omega (arith, c.told-above, c.requires)) (omega (arith, c.told-above, c.loop-i-test.true)) c.loop-i.invariant refl

pub returns : goal.returns
returns c =
    let whole : c.args.at + c.loop-i.i ≡ c.args.at + 32 = omega (arith, c.loop-i-test.false, c.loop-i.auto.i-end) in
    let size : length (map (λ d. d == 0) c.args.above.now) ≡ 32 = length-map c.args.above.now (λ d. d == 0) ∙ c.told-above in
    c.loop-i.invariant ∙ ap (λ (n : ℕ). fronted n (put_chunk c.args.at c.args.out.now (map (λ d. d == 0) c.args.above.now)) c.args.out.now) whole
    ∙ group_ends c.args.at 32 c.args.out.now (map (λ d. d == 0) c.args.above.now) size c.requires
