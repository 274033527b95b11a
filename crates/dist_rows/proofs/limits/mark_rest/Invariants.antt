use Rattle.std.proofs.Common.{◌≡◌}
use Rattle.dist_rows.specs.Helps.Rows.{fronted}
use Rattle.dist_rows.specs.Squares.{are_within}
use Rattle.dist_rows.proofs.limits.mark_rest.Given as goal

abbrev pub invariant-loop-i : goal.invariant-loop-i
invariant-loop-i l = l.out ≡ fronted l.i (are_within l.limit l.cells) l.initial.out
