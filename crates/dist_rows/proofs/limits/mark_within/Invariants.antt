use Rattle.std.proofs.Common.{◌≡◌, ◌*◌}
use Rattle.dist_rows.specs.Helps.Rows.{fronted}
use Rattle.dist_rows.specs.Squares.{are_within}
use Rattle.dist_rows.proofs.limits.mark_within.Given as goal

abbrev pub invariant-loop-group : goal.invariant-loop-group
invariant-loop-group l = l.out ≡ fronted (l.group * 32) (are_within l.limit l.cells) l.initial.out
