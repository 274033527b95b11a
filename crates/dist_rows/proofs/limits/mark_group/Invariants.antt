use Rattle.std.proofs.Common.{◌≡◌, ◌+◌, map}
use Rattle.std.specs.Prelude.{◌==◌}
use Rattle.std.specs.Simd.Lanes.{put_chunk}
use Rattle.dist_rows.specs.Helps.Rows.{fronted}
use Rattle.dist_rows.proofs.limits.mark_group.Given as goal

abbrev pub invariant-loop-i : goal.invariant-loop-i
invariant-loop-i l = l.out ≡ fronted (l.at + l.i) (put_chunk l.at l.initial.out (map (λ d. d == 0) l.above)) l.initial.out
